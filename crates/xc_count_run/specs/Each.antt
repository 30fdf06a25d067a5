-- What is printed of how many solutions each option is in.
-- Public contracts rest on this file: readers must believe it.
use Rattle.std.specs.Prelude.{◌≡◌, ◌⊎◌, ℕ, List, ◌++◌, codes, length, flat_map}
use Rattle.std.specs.List.{enumerate_from}
use Rattle.natural.specs.Numerals.{numeral}
use Rattle.xc_input.specs.Named.{Named}
use Rattle.xc_input.specs.Problem.{Puzzle}
use Rattle.xc_search.specs.Cover.{members}
use Rattle.xc_text.specs.Texts.{BrokeOff, WasTold}
use Rattle.xc_tools.specs.WholeRuns.{Sinks, IsRefused, TookAll, FailedBehind}
use Rattle.xc_count.specs.Occurrences.{occurrences}
use Rattle.xc_count_run.specs.LastLine.{Concludes, count_text}

-- the line of an option: its number, and in how many solutions it is
abbrev pub option_line : ℕ × ℕ → List ℕ
option_line o = numeral o.0 ++ codes " " ++ numeral o.1 ++ codes "\n"

-- the lines of all options, which are numbered from 1
abbrev pub option_lines : Puzzle → List ℕ
option_lines p = flat_map option_line (enumerate_from 1 (occurrences p))

-- What printing these lines and behind them the last one did, by the status. The lines were printed, and then the last
-- one, as far as that went; or, with 3, they couldn't be.
abbrev pub PrintsBoth : {O E : Type 0} → List ℕ → List ℕ → ℕ → Sinks O E → Sinks O E → Type 0
PrintsBoth lines last status old new =
    (TookAll old.out.state new.out.state lines × Concludes last status old.err.state new.err.state)
    ⊎ ((status ≡ 3) × (BrokeOff old.out.state new.out.state lines ⊎ FailedBehind old.out.state new.out.state lines)
    × WasTold old.err.state new.err.state (codes "Write failed.\n"))

-- What telling of each option in how many solutions it is did: the lines of the options and the last line of the count
-- were printed, as far as that went; or, with 4, there was no memory.
abbrev pub DidTellEach : {O E : Type 0} → Named → ℕ → Sinks O E → Sinks O E → Type 0
DidTellEach a status old new =
    PrintsBoth (option_lines a.puzzle) (count_text (length (members a.puzzle))) status old new
    ⊎ IsRefused status old new (4, codes "Out of memory.\n")
