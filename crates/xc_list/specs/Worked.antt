-- Worked problems with their names.
-- Public contracts rest on this file: readers must believe it.
use Rattle.std.specs.Prelude.{[], ◌∷◌, codes}
use Rattle.xc_text.specs.declared.seed.TheConstants.Seed.{FIXED}
use Rattle.xc_input.specs.Named.{Named}
use Rattle.xc_search.specs.Worked.{seven_items, two_colours, equal_options}

-- the seven items, by letters
abbrev pub seven : Named
seven = record {
  names = codes "a" ∷ codes "b" ∷ codes "c" ∷ codes "d" ∷ codes "e" ∷ codes "f" ∷ codes "g" ∷ [];
  colours = [];
  puzzle = seven_items;
  seed = FIXED;
}

-- the problem of two colours, by letters
abbrev pub colours : Named
colours = record {
  names = codes "p" ∷ codes "q" ∷ codes "r" ∷ codes "x" ∷ codes "y" ∷ [];
  colours = codes "A" ∷ codes "B" ∷ [];
  puzzle = two_colours;
  seed = FIXED;
}

-- one item in three equal options
abbrev pub three_alike : Named
three_alike = record { names = codes "A" ∷ []; colours = []; puzzle = equal_options; seed = FIXED }
