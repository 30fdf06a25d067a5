-- What is left of a problem whose items are held by some of its options.
-- No public contract rests on this file.
use Rattle.std.specs.Prelude.{ℕ, ◌==◌, Bool, List, Option, Some, is_none, filter, length, if◌then◌else◌}
use Rattle.std.specs.List.{list_all}
use Rattle.std.specs.Option.{option_or}
use Rattle.xc_input.specs.Problem.{Puzzle, Numbered, numbered_options, colour_in}
use Rattle.xc_input.specs.declared.problem.Use.{Use}
use Rattle.xc_moves.specs.Moves.{agrees}
use Rattle.xc_search.specs.Listing.{Residual, whole, listing}

-- the colour for which an item is held, 0 for none, if it is held or was given up
abbrev pub Held : Type 0
Held = ℕ → Option ℕ

-- whether each of these uses is of an item that is free, or is secondary and held for its colour
abbrev pub agree : Held → List Use → Bool
agree s us = list_all (λ u. agrees u.colour (s u.item)) us

-- an option fits if its uses agree
abbrev pub fits : Held → Numbered → Bool
fits s o = list_all (λ u. agrees u.colour (s u.item)) o.uses

-- the items that are free, and the options that fit
abbrev pub left_by : Puzzle → Held → Residual
left_by p s = record {
  items = filter (λ w. is_none (s w.item)) (whole p).items;
  options = filter (fits s) (numbered_options p);
}

-- once these uses are taken
abbrev pub holding_uses : List Use → Held → Held
holding_uses us s i = option_or (colour_in us i) (s i)

-- once option x is taken
abbrev pub holding_option : Numbered → Held → Held
holding_option x s = holding_uses x.uses s

-- once item j is given up
abbrev pub without_item : ℕ → Held → Held
without_item j s i = if i == j then Some 0 else s i

-- how many covers there are of what is left
abbrev pub below : Puzzle → Held → ℕ
below p s = length (listing (left_by p s))
