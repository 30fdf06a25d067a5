-- The line before a search that goes on alone.
-- Public contracts rest on this file: readers must believe it.
use Rattle.std.specs.Prelude.{◌≡◌, ◌⊎◌, ℕ, List, codes}
use Rattle.xc_text.specs.Texts.{Seen, SinkState, Took, BrokeOff}
use Rattle.xc_tools.specs.WholeRuns.{Sinks}

-- that there is no sweep any more
abbrev pub gave_up_text : List ℕ
gave_up_text = codes "The states take too much memory: the search goes on alone.\n"

-- What was done behind a text of the error sink. With 3 the text couldn't be printed, and the output wasn't touched; or
-- it was printed, and then this was done.
abbrev pub DidBehind : {O E : Type 0} → List ℕ → (Sinks O E → Type 0) → ℕ → Sinks O E → Sinks O E → Type 0
DidBehind text Did status old new =
    ((status ≡ 3) × BrokeOff old.err.state new.err.state text × (new.out ≡ old.out))
    ⊎ ((behind : Seen _ SinkState) × Took old.err.state behind.state text × Did (record old { err = behind }))

-- It was done at once, or behind that line.
abbrev pub DidPerhapsAlone : {O E : Type 0} → (Sinks O E → Type 0) → ℕ → Sinks O E → Sinks O E → Type 0
DidPerhapsAlone Did status old new = Did old ⊎ DidBehind gave_up_text Did status old new
