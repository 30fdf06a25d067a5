-- What is printed of the solution of a number.
-- Public contracts rest on this file: readers must believe it.
use Rattle.std.specs.Prelude.{◌⊎◌, ℕ, ◌==◌, List, ◌++◌, MatchOption, codes, flat_map, if◌then◌else◌}
use Rattle.natural.specs.Numerals.{numeral}
use Rattle.xc_input.specs.Named.{Named}
use Rattle.xc_input.specs.Problem.{numbered_get}
use Rattle.xc_search.specs.Cover.{members}
use Rattle.xc_search.specs.declared.choice.Choice.{Choice}
use Rattle.xc_list.specs.Output.{choice_text}
use Rattle.xc_tools.specs.WholeRuns.{Sinks, IsRefused, Prints}

-- the text of a solution under its number, which may have any length
abbrev pub numbered_text : Named → ℕ → List Choice → List ℕ
numbered_text a n m = numeral n ++ codes ":\n" ++ flat_map (choice_text a) m

-- the line where there is no solution of this number, from 1
abbrev pub fewer_text : ℕ → List ℕ
fewer_text n =
    if n == 1 then codes "There are no solutions.\n"
    else (codes "There are fewer than " ++ numeral n ++ codes " solutions.\n")

-- What printing the solution of a number did, by the status. 0: it was printed; 3: or it couldn't be. 5: there are
-- fewer. 4: there was no memory.
abbrev pub DidFind : {O E : Type 0} → Named → ℕ → ℕ → Sinks O E → Sinks O E → Type 0
DidFind a n status old new =
    MatchOption (numbered_get (members a.puzzle) n)
    (IsRefused status old new (5, fewer_text n))
    (λ m. Prints 0 status old new (numbered_text a n m))
    ⊎ IsRefused status old new (4, codes "Out of memory.\n")
