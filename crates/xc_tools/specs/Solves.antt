-- What a whole run of a solver does.
-- Public contracts rest on this file: readers must believe it.
use Rattle.std.specs.Prelude.{◌≡◌, ◌⊎◌, ℕ, List, MatchResult, codes, flat_map}
use Rattle.xc_input.specs.declared.kind.Kind.{Kind}
use Rattle.xc_input.specs.Named.{Named}
use Rattle.xc_text.specs.Sources.{SourceState}
use Rattle.xc_search.specs.Cover.{EachMemberCovers, EachCoverIsListedOnce}
use Rattle.xc_list.specs.declared.words.Words.{Words}
use Rattle.xc_list.specs.declared.ends.End.TheVariants.{WriteFailed}
use Rattle.xc_list.specs.Messages.{warning_text, summary_text, word_fault_text}
use Rattle.xc_list.specs.Output.{output}
use Rattle.xc_list.specs.Runs.{StoppedAt, end_of}
use Rattle.xc_list.specs.Settings.{read_words}
use Rattle.xc_text.specs.Texts.{Seen, SinkState, Took, BrokeOff, WasTold}
use Rattle.xc_tools.specs.WholeRuns.{Sinks, TookAll, FailedBehind, IsRefused, ReadsProblem}

-- 0: the output was taken, and the last line was printed. The members are covers, and each cover is the set of exactly
-- one of them.
pub record IsComplete {O E : Type 0} (a : Named) (w : Words) (old new : Sinks O E) : Type 0 where
  pub output : TookAll old.out.state new.out.state (output a w.spacing w.limit)
  pub told : Took old.err.state new.err.state (summary_text (end_of a w.limit))
  pub right : EachMemberCovers a.puzzle
  pub complete : EachCoverIsListedOnce a.puzzle

-- What searching a problem did, by the status. 3: the output failed in a solution, whose number was reported; or it was
-- taken whole and its flush failed, which was reported; or all went well until the last line couldn't be printed. 4:
-- there was no memory for the search.
abbrev pub DidSearch : {O E : Type 0} → Named → Words → ℕ → Sinks O E → Sinks O E → Type 0
DidSearch a w status old new = let text = output a w.spacing w.limit in
    let told = WasTold old.err.state new.err.state in
    ((status ≡ 0) × IsComplete a w old new)
    ⊎ ((status ≡ 3) × (n : ℕ) × StoppedAt a w.spacing w.limit n old.out.state new.out.state
    × told (summary_text (WriteFailed n)))
    ⊎ ((status ≡ 3) × FailedBehind old.out.state new.out.state text × told (codes "Write failed.\n"))
    ⊎ ((status ≡ 3) × TookAll old.out.state new.out.state text
    × BrokeOff old.err.state new.err.state (summary_text (end_of a w.limit)))
    ⊎ IsRefused status old new (4, codes "Out of memory.\n")

-- What solving a problem did: a warning couldn't be printed, at 3, and the output wasn't touched; or the warnings were
-- printed, and then it was searched.
abbrev pub DidWarnAndSearch : {O E : Type 0} → Words → ℕ → Sinks O E → Sinks O E → Named → List ℕ → Type 0
DidWarnAndSearch w status old new a ignored =
    let warnings = flat_map warning_text ignored in
    ((status ≡ 3) × BrokeOff old.err.state new.err.state warnings × (new.out ≡ old.out))
    ⊎ ((warned : Seen _ SinkState) × Took old.err.state warned.state warnings
    × DidSearch a w status (record old { err = warned }) new)

-- What a run did, by its words and its status, which is 1 exactly if the words have a fault.
abbrev pub DidSolve : {S O E : Type 0} → Kind → List (List ℕ) → ℕ → Seen S SourceState → Seen S SourceState
    → Sinks O E → Sinks O E → Type 0
DidSolve kind words status from to old new = MatchResult (read_words words)
    (λ w. ReadsProblem kind from.state to.state (DidWarnAndSearch w status old new) (IsRefused status old new))
    (λ fault. (to ≡ from) × IsRefused status old new (1, word_fault_text fault))
