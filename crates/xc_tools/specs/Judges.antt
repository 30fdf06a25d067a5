-- What a whole run of the judge does.
-- Public contracts rest on this file: readers must believe it.
use Rattle.std.specs.Prelude.{ℕ, ◌≡◌, ◌⊎◌, List, [], ◌∷◌, ◌++◌, Option, None, Some, MatchOption, codes, decimal}
use Rattle.std.specs.Prelude.{flat_map, if◌then◌else◌}
use Rattle.std.specs.List.{list_all}
use Rattle.std.specs.Str.{bytes_eq}
use Rattle.xc_input.specs.declared.kind.Kind.{Kind}
use Rattle.xc_input.specs.declared.kind.Kind.TheVariants.{Plain, Colours, Bounds}
use Rattle.xc_input.specs.Named.{Named}
use Rattle.xc_text.specs.Lines.{lines_of}
use Rattle.xc_text.specs.Calls.{Rose}
use Rattle.xc_text.specs.Sources.{SourceState, GaveAll}
use Rattle.xc_check.specs.Listed.{fault_in_lines, AreVerdicts}
use Rattle.xc_text.specs.Texts.{Seen}
use Rattle.xc_check.specs.declared.verdict.Verdict.{Verdict}
use Rattle.xc_check.specs.declared.verdict.ListingFault.{ListingFault}
use Rattle.xc_check.specs.declared.verdict.ListingFault.TheVariants.{BadLine, UnknownOption, Memory}
use Rattle.xc_tools.specs.Arguments.{asked_kind}
use Rattle.xc_tools.specs.WholeRuns.{Sinks, Prints, IsRefused, ReadsProblem}

-- the message for a listing that gets no verdicts
abbrev pub listing_fault_text : ListingFault → List ℕ
listing_fault_text (BadLine n) = codes "Listing line " ++ decimal n ++ codes ": bad line.\n"
listing_fault_text (UnknownOption n) = codes "Listing line " ++ decimal n ++ codes ": unknown option.\n"
listing_fault_text Memory = codes "Out of memory.\n"

-- a verdict as a line
abbrev pub verdict_text : Verdict → List ℕ
verdict_text v = decimal v.number ++ (if v.cover then codes ": cover\n" else codes ": not a cover\n")

-- A source gave a listing without a fault, and these are the verdicts on it.
pub record HasVerdicts (a : Named) (vs : List Verdict) (old new : SourceState) : Type 0 where
  pub listing : List ℕ
  pub gave : GaveAll old new listing
  pub no_fault : fault_in_lines a 0 (lines_of listing) ≡ None
  pub verdicts : AreVerdicts a (lines_of listing) vs

-- 0, 3, 5: the listing has verdicts, and these were printed, which has status 0 where each is yes and else 5.
pub record IsJudged {O E : Type 0} (a : Named) (status : ℕ) (from to : SourceState) (old new : Sinks O E) : Type 0 where
  pub verdicts : List Verdict
  pub right : HasVerdicts a verdicts from to
  pub printed : Prints (if list_all (λ v. v.cover) verdicts then 0 else 5) status old new
      (flat_map verdict_text verdicts)

-- 2: the listing has a first fault.
pub record HasFault {O E : Type 0} (a : Named) (status : ℕ) (from to : SourceState) (old new : Sinks O E) : Type 0 where
  pub listing : List ℕ
  pub gave : GaveAll from to listing
  pub fault : ListingFault
  pub first : fault_in_lines a 0 (lines_of listing) ≡ Some fault
  pub refused : IsRefused status old new (2, listing_fault_text fault)

-- What judging a listing of a problem did: it has verdicts or a fault; or a read of it failed; or there was no memory.
abbrev pub DidJudgeListing : {O E : Type 0} → Named → ℕ → SourceState → SourceState → Sinks O E → Sinks O E → Type 0
DidJudgeListing a status from to old new =
    IsJudged a status from to old new ⊎ HasFault a status from to old new
    ⊎ (Rose from.failures to.failures × IsRefused status old new (3, codes "Read failed.\n"))
    ⊎ ((to.failures ≡ from.failures) × IsRefused status old new (4, codes "Out of memory.\n"))

-- What a run of the judge did, by its words and its status, which is 1 exactly if the words mean no kind. Where
-- there was no problem, the listing wasn't read.
abbrev pub DidJudge : {P L O E : Type 0} → List (List ℕ) → ℕ → Seen P SourceState → Seen P SourceState
    → Seen L SourceState → Seen L SourceState → Sinks O E → Sinks O E → Type 0
DidJudge words status problem_from problem_to from to old new = MatchOption (asked_kind words)
    ((problem_to ≡ problem_from) × (to ≡ from)
    × IsRefused status old new (1, codes "Usage: dlxcheck PROBLEM [1|2|3]\n"))
    (λ kind. ReadsProblem kind problem_from.state problem_to.state
    (λ a _. DidJudgeListing a status from.state to.state old new)
    (λ reason. (to ≡ from) × IsRefused status old new reason))
