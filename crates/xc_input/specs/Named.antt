-- A problem with the names of its items, the bytes of its colours, and the seed of its tables, of which no text says
-- anything.
-- Public contracts rest on this file: readers must believe it.
use Rattle.std.specs.Prelude.{ℕ, ◌≤◌, ◌≡◌, ◌≢◌, false, List, All, AllPairs, length}
use Rattle.xc_input.specs.declared.problem.Use.{Use}
use Rattle.xc_text.specs.declared.seed.Seed.{Seed}
use Rattle.xc_input.specs.Problem.{Puzzle, IsItem, item_count, IsValid, IsWithinLimits}
use Rattle.std.specs.List.{list_any}
use Rattle.xc_text.specs.Words.{is_space, has}
use Rattle.xc_input.specs.Limits.{longest_name, longest_colour, most_uses}
use Prim.Native.Char.{code}

-- a problem, the names of its items by their numbers, its colours by theirs, from 1, and the seed by which the tables
-- of both hash
pub record Named : Type 0 where
  pub names : List (List ℕ)
  pub colours : List (List ℕ)
  pub puzzle : Puzzle
  pub seed : Seed

-- a use whose item and colour have a name
abbrev pub IsKnownUse : Named → Use → Type 0
IsKnownUse a u = IsItem a.puzzle u.item × (u.colour ≤ length a.colours)

-- bytes, not too many, without a colon or a bar
pub record IsName (name : List ℕ) : Type 0 where
  pub some : 1 ≤ length name
  pub short : length name ≤ longest_name
  pub no_colon : has (code ":") name ≡ false
  pub no_bar : has (code "|") name ≡ false

-- bytes, not too many
abbrev pub IsColour : List ℕ → Type 0
IsColour colour = (1 ≤ length colour) × (length colour ≤ longest_colour)

-- bytes that no white space, NUL byte or line feed breaks
pub record IsUnbroken (bytes : List ℕ) : Type 0 where
  pub no_space : list_any is_space bytes ≡ false
  pub no_nul : has 0 bytes ≡ false
  pub no_feed : has 10 bytes ≡ false

-- each item has a name of its own, and no colour occurs twice
pub record IsWellNamed (a : Named) : Type 0 where
  pub count : length a.names ≡ item_count a.puzzle
  pub names : All IsName a.names
  pub unbroken_names : All IsUnbroken a.names
  pub distinct : AllPairs (λ x y. x ≢ y) a.names
  pub colours : All IsColour a.colours
  pub unbroken_colours : All IsUnbroken a.colours
  pub distinct_colours : AllPairs (λ x y. x ≢ y) a.colours

-- what holds of each problem that was read; each use has no colour or one that there is
pub record IsSound (a : Named) : Type 0 where
  pub valid : IsValid a.puzzle
  pub limits : IsWithinLimits a.puzzle
  pub coloured : All (λ us. All (λ u. u.colour ≤ length a.colours) us) a.puzzle.options
  pub few_colours : length a.colours ≤ most_uses
  pub named : IsWellNamed a
