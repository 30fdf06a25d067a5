-- What a whole run does that judges what shows that a problem has no cover.
-- Public contracts rest on this file: readers must believe it.
use Rattle.std.specs.Prelude.{ℕ, ◌≡◌, ◌≢◌, ◌⊎◌, List, ◌++◌, MatchOption, MatchResult, Result, Ok, Err, codes, decimal}
use Rattle.std.specs.Prelude.{length, Vec, ℤ}
use Rattle.std.specs.declared.alloc.Global.{Global}
use Rattle.xc_text.specs.Sources.{SourceState}
use Rattle.xc_text.specs.Texts.{Seen, SinkState, Took, BrokeOff, WasTold}
use Rattle.xc_input.specs.Cover.{IsCover}
use Rattle.xc_input.specs.Named.{Named}
use Rattle.xc_input.specs.Problem.{item_count}
use Rattle.xc_numbers.specs.SignedNumbers.{ReadsNumbers}
use Rattle.xc_numbers.specs.declared.fault.NumbersError.{NumbersError}
use Rattle.xc_numbers.specs.declared.fault.NumbersError.TheVariants as numbers
use Rattle.refutation.specs.declared.answer.Answer.{Answer}
use Rattle.refutation.specs.declared.answer.Answer.TheVariants.{Refuted, Unfinished, DoesNotFollow, NoStep}
use Rattle.xc_none.specs.Cnf.{cnf_text}
use Rattle.xc_none.specs.Meanings.{AreTrueOfCovers}
use Rattle.xc_none.specs.Reported.{IsReported, error_of_clauses}
use Rattle.xc_none.specs.declared.errors.ClausesError.{ClausesError}
use Rattle.xc_none.specs.declared.errors.NoneError.{NoneError}
use Rattle.xc_none.specs.declared.errors.NoneError.TheVariants.{Device, Memory, TooManyVariables, Lost}
use Rattle.xc_none.specs.declared.meaning.Meaning.{Meaning}
use Rattle.xc_tools.specs.WholeRuns.{Sinks, Prints, IsRefused, ReadsProblem}
use Rattle.xc_none_run.specs.Words.{Sought, its_clauses, by_proof, by_weights, asked_none}

-- no set of options is a cover
abbrev pub HasNoCover : Named → Type 0
HasNoCover a = (s : List ℕ) → IsCover a.puzzle s → ⊥

-- There is no cover, and this was printed as the last line, with 0; or, with 3, it couldn't be.
abbrev pub TellsNone : Named → ℕ → SinkState → SinkState → Type 0
TellsNone a status old new = HasNoCover a × (((status ≡ 0) × Took old new (codes "No solution.\n"))
    ⊎ ((status ≡ 3) × BrokeOff old new (codes "No solution.\n")))

-- A reason was reported, as far as that goes, with its status.
abbrev pub GivesReason : ℕ → SinkState → SinkState → ℕ × List ℕ → Type 0
GivesReason status old new reason = (status ≡ reason.0) × WasTold old new reason.1

-- WEIGHTS

-- the line where there are this many weights and that many items
abbrev pub wrong_count : ℕ → ℕ → List ℕ
wrong_count weights items =
    codes "Weights: " ++ decimal weights ++ codes " numbers, and " ++ decimal items ++ codes " items.\n"

-- the status and the line of a reason why no weights were read
abbrev pub no_weights : NumbersError → ℕ × List ℕ
no_weights (numbers.Fault line) = (2, codes "Weights line " ++ decimal line ++ codes ": no weight.\n")
no_weights numbers.Device = (3, codes "Read failed.\n")
no_weights numbers.Memory = (4, codes "Out of memory.\n")

-- What judging so many weights did: there has to be one for each item; they show that there is no cover, or don't.
abbrev pub JudgesWeights : Named → ℕ → ℕ → SinkState → SinkState → Type 0
JudgesWeights a count status old new =
    ((count ≢ item_count a.puzzle) × GivesReason status old new (2, wrong_count count (item_count a.puzzle)))
    ⊎ ((count ≡ item_count a.puzzle)
    × (TellsNone a status old new ⊎ GivesReason status old new (5, codes "The weights don't show it.\n")))

-- What was done with a source of weights: they were read and judged, or why they weren't was reported.
abbrev pub DidWeigh : Named → ℕ → SourceState → SourceState → SinkState → SinkState → Type 0
DidWeigh a status from to old new =
    ((v : Vec ℤ Global) × ReadsNumbers from to (Ok v) × JudgesWeights a (length v.items) status old new)
    ⊎ ((e : NumbersError) × ReadsNumbers from to (Err e) × GivesReason status old new (no_weights e))

-- CLAUSES, AND PROOFS THAT REFUTE THEM

-- the status and the line of a reason why a proof wasn't judged
abbrev pub no_judgement : NoneError → ℕ × List ℕ
no_judgement Device = (3, codes "Read failed.\n")
no_judgement Memory = (4, codes "Out of memory.\n")
no_judgement TooManyVariables = (2, codes "The clauses have too many variables.\n")
no_judgement Lost = (2, codes "The clauses lack a variable.\n")

-- what a proof showed was reported: that there is no cover, or why it shows nothing
abbrev pub TellsAnswer : Named → Answer → ℕ → SinkState → SinkState → Type 0
TellsAnswer a Refuted status old new = TellsNone a status old new
TellsAnswer a Unfinished status old new =
    GivesReason status old new (5, codes "The proof ends before the empty clause.\n")
TellsAnswer a (DoesNotFollow step) status old new =
    GivesReason status old new (5, codes "Step " ++ decimal step ++ codes " doesn't follow.\n")
TellsAnswer a (NoStep step) status old new =
    GivesReason status old new (5, codes "Step " ++ decimal step ++ codes " is no step.\n")

-- What was done with the source of a proof: it was judged, or why it wasn't was reported.
abbrev pub DidJudgeProof : Named → ℕ → SourceState → SourceState → SinkState → SinkState → Type 0
DidJudgeProof a status from to old new = (r : Result Answer NoneError) × IsReported from.failures to.failures r
    × MatchResult r (λ answer. TellsAnswer a answer status old new) (λ e. GivesReason status old new (no_judgement e))

-- Clauses that each cover makes true were printed; or why there are none was reported.
abbrev pub DidPrintClauses : {O E : Type 0} → Named → ℕ → Sinks O E → Sinks O E → Type 0
DidPrintClauses a status old new =
    ((meanings : List Meaning) × (clauses : List (Vec ℕ Global)) × AreTrueOfCovers a.puzzle meanings clauses
    × Prints 0 status old new (cnf_text a meanings clauses))
    ⊎ ((e : ClausesError) × IsRefused status old new (no_judgement (error_of_clauses e)))

-- A WHOLE RUN

-- What was done with a problem and the further file, by what was asked. Without a further file it wasn't read; with one
-- the output wasn't touched.
abbrev pub DidShow : {O E : Type 0} → Sought → Named → ℕ → SourceState → SourceState → Sinks O E → Sinks O E → Type 0
DidShow its_clauses a status from to old new = DidPrintClauses a status old new × (to ≡ from)
DidShow by_proof a status from to old new =
    DidJudgeProof a status from to old.err.state new.err.state × (new.out ≡ old.out)
DidShow by_weights a status from to old new =
    DidWeigh a status from to old.err.state new.err.state × (new.out ≡ old.out)

-- What a run did, by its words and its status, which is 1 exactly if the words are wrong.
abbrev pub DidShowNone : {P F O E : Type 0} → List (List ℕ) → ℕ → Seen P SourceState → Seen P SourceState
    → Seen F SourceState → Seen F SourceState → Sinks O E → Sinks O E → Type 0
DidShowNone words status problem_from problem_to from to old new = MatchOption (asked_none words)
    ((problem_to ≡ problem_from) × (to ≡ from)
    × IsRefused status old new (1, codes "Usage: dlx-none 1|2|3 PROBLEM [FILE [w]]\n"))
    (λ asked. ReadsProblem asked.0 problem_from.state problem_to.state
    (λ a _. DidShow asked.1 a status from.state to.state old new)
    (λ reason. (to ≡ from) × IsRefused status old new reason))
