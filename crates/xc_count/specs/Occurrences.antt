-- In how many solutions each option is.
-- Public contracts rest on this file: readers must believe it.
use Rattle.std.specs.Prelude.{ℕ, Bool, ◌==◌, List, map, count_by}
use Rattle.std.specs.List.{list_any}
use Rattle.xc_input.specs.Problem.{Puzzle, numbered_options}
use Rattle.xc_search.specs.declared.choice.Choice.{Choice}
use Rattle.xc_search.specs.Cover.{members, options_of}

-- whether a member takes option o
abbrev pub takes : ℕ → List Choice → Bool
takes o m = list_any (λ a. a == o) (options_of m)

-- in how many members option o is
abbrev pub occurrences_of : Puzzle → ℕ → ℕ
occurrences_of p o = count_by (takes o) (members p)

-- the same of each option, in the order of the file
abbrev pub occurrences : Puzzle → List ℕ
occurrences p = map (λ x. occurrences_of p x.number) (numbered_options p)
