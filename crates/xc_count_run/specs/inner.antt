-- What is reported of a count.
-- No public contract rests on this file.
use Rattle.std.specs.Prelude.{ℕ, ◌≡◌, ◌⊎◌, codes, length}
use Rattle.xc_input.specs.Named.{Named}
use Rattle.xc_search.specs.Cover.{members}
use Rattle.xc_text.specs.Texts.{SinkState, Took, BrokeOff, WasTold}
use Rattle.xc_count_run.specs.Alone.{gave_up_text}
use Rattle.xc_count_run.specs.LastLine.{Concludes, count_text}

-- what counting the covers of a problem reports: the number, as far as that goes; or, with 4, that there is no memory
abbrev pub ReportsCount : Named → ℕ → SinkState → SinkState → Type 0
ReportsCount a status old new = Concludes (count_text (length (members a.puzzle))) status old new
    ⊎ ((status ≡ 4) × WasTold old new (codes "Out of memory.\n"))

-- and what it reports if a search goes on alone: that line, as far as that goes, and then the number
abbrev pub ReportsAlone : Named → ℕ → SinkState → SinkState → Type 0
ReportsAlone a status old new = ((status ≡ 3) × BrokeOff old new gave_up_text)
    ⊎ ((between : SinkState) × Took old between gave_up_text × ReportsCount a status between new)
