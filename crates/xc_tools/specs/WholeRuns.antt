-- What the whole runs of all programs have in common.
-- Public contracts rest on this file: readers must believe it.
use Rattle.std.specs.Prelude.{◌≡◌, ◌⊎◌, ℕ, ◌+◌, List, ◌++◌, IsTrue, codes, decimal}
use Rattle.std.specs.Io.KnownBytes.{Appends}
use Rattle.xc_text.specs.Calls.{Rose}
use Rattle.xc_input.specs.FaultTexts.{fault_text}
use Rattle.xc_input.specs.Named.{Named}
use Rattle.xc_text.specs.Sources.{SourceState}
use Rattle.xc_input.specs.Pieces.{IsPart, IsWhole}
use Rattle.xc_input.specs.declared.fault.InputError.{InputError}
use Rattle.xc_input.specs.declared.fault.InputError.TheVariants.{Fault, Device, Memory}
use Rattle.xc_input.specs.declared.kind.Kind.{Kind}
use Rattle.xc_text.specs.Texts.{Seen, seen, SinkState, BrokeOff, WasTold}

-- The output and the messages of a program.
pub record Sinks (O E : Type 0) : Type 0 where
  pub out : Seen O SinkState
  pub err : Seen E SinkState

-- both, by what is known of each
abbrev pub sinks : {O E : Type 0} → (O → SinkState) → (E → SinkState) → O → E → Sinks O E
sinks out err o e = record { out = seen out o; err = seen err e }

-- A sink took the whole text and was flushed once, met no failure, and holds nothing back.
pub record TookAll (old new : SinkState) (text : List ℕ) : Type 0 where
  pub no_failure : new.failures ≡ old.failures
  pub whole : Appends old.taken new.taken text
  pub settled : IsTrue new.settled
  pub flushed_once : new.flushes ≡ old.flushes + 1

-- A sink took the whole text, was flushed once, and failed at that, its last call.
pub record FailedBehind (old new : SinkState) (text : List ℕ) : Type 0 where
  pub failure : Rose old.failures new.failures
  pub last : IsTrue new.failed
  pub taken : Appends old.taken new.taken text
  pub flushed_once : new.flushes ≡ old.flushes + 1

-- The output took this text and nothing was reported, with this status. Or a write of the text failed, or the flush
-- after it, which was reported and has status 3.
abbrev pub Prints : {O E : Type 0} → ℕ → ℕ → Sinks O E → Sinks O E → List ℕ → Type 0
Prints well status old new text =
    ((status ≡ well) × TookAll old.out.state new.out.state text × (new.err ≡ old.err))
    ⊎ ((status ≡ 3) × (BrokeOff old.out.state new.out.state text ⊎ FailedBehind old.out.state new.out.state text)
    × WasTold old.err.state new.err.state (codes "Write failed.\n"))

-- A run was refused, for a reason with this status and this line: the line was reported, and the output wasn't touched.
pub record IsRefused {O E : Type 0} (status : ℕ) (old new : Sinks O E) (reason : ℕ × List ℕ) : Type 0 where
  pub is_status : status ≡ reason.0
  pub told : WasTold old.err.state new.err.state reason.1
  pub unwritten : new.out ≡ old.out

-- the status and the line of a reason why no problem was read
abbrev pub no_problem : InputError → ℕ × List ℕ
no_problem (Fault line kind) = (2, codes "Line " ++ decimal line ++ codes ": " ++ fault_text kind ++ codes ".\n")
no_problem Device = (3, codes "Read failed.\n")
no_problem Memory = (4, codes "Out of memory.\n")

-- A source gave a text that stands for a problem, and its end, and this was done with the problem and the lines that
-- were ignored; or it gave no problem, and the run was refused so for the reason.
abbrev pub ReadsProblem : Kind → SourceState → SourceState → (Named → List ℕ → Type 0) → (ℕ × List ℕ → Type 0) → Type 0
ReadsProblem kind from to did refused =
    ((a : Named) × (ignored : List ℕ) × IsWhole kind from to a ignored × did a ignored)
    ⊎ ((error : InputError) × IsPart kind from to error × refused (no_problem error))
