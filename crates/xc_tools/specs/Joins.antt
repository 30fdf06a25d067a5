-- What a whole run that joins spans does.
-- Public contracts rest on this file: readers must believe it.
use Rattle.std.specs.Prelude.{ℕ, ◌≡◌, ◌⊎◌, All, Bool, true, false, List, [], ◌∷◌, ◌++◌, Option, Some}
use Rattle.std.specs.Prelude.{None}
use Rattle.std.specs.Prelude.{MatchOption, drop, map, flat_map, codes, decimal, if◌then◌else◌, take, sum_by, nat_lt}
use Rattle.std.specs.List.{enumerate_from}
use Rattle.xc_text.specs.Calls.{Rose}
use Rattle.xc_text.specs.Sources.{SourceState, Gave, GaveAll}
use Rattle.xc_list.specs.SpanTexts.{most_counted, row_text}
use Rattle.xc_list.specs.Messages.{summary_text}
use Rattle.xc_list.specs.SearchedSpans.{SearchedSpan}
use Rattle.xc_text.specs.Texts.{Seen, Took, BrokeOff, WasTold}
use Rattle.xc_list.specs.declared.ends.End.{End}
use Rattle.xc_list.specs.declared.ends.End.TheVariants.{Done, Limit}
use Rattle.xc_tools.specs.Arguments.{asked_join}
use Rattle.xc_tools.specs.SpanShapes.{AreShapes, HasShape, SpanText, bytes_of, solution_text}
use Rattle.xc_streams.specs.ShownNames.{source_text, OfSource}
use Rattle.xc_tools.specs.WholeRuns.{Sinks, TookAll, FailedBehind, IsRefused}

-- The first span begins at this row, each other one where the one before it ended, and the last ends at the listing's
-- end.
abbrev pub DoMeet : List ℕ → List SearchedSpan → Type 0
DoMeet row [] = ⊥
DoMeet row (s ∷ spans) = (s.from ≡ row) × elim s.until [ [] ↦ spans ≡ [] | n ∷ until ↦ DoMeet (n ∷ until) spans ]

-- the texts are of one problem, by its digest
abbrev pub AreOfOneProblem : List SpanText → Type 0
AreOfOneProblem texts = (digest : List ℕ) × All (λ t. t.digest ≡ digest) texts

-- their spans
abbrev pub spans_in : List SpanText → List SearchedSpan
spans_in texts = map (λ t. t.span) texts

-- The first place where spans from a row on don't meet: where a text ended, or the listing begins, and where the next
-- one begins. A dash is the listing's end or its beginning, or says that there is no next one.
abbrev pub IsFirstGap : List ℕ → List ℕ → List ℕ → List SearchedSpan → Type 0
IsFirstGap row met next [] = (met ≡ row_text row) × (next ≡ codes "-")
IsFirstGap row met next (s ∷ spans) =
    (((s.from ≡ row) → ⊥) × (met ≡ row_text row) × (next ≡ row_text s.from))
    ⊎ ((s.from ≡ row) × elim s.until as (λ u. Type 0) [
      | [] ↦ (t : SearchedSpan) × (others : List SearchedSpan) × (spans ≡ t ∷ others) × (met ≡ codes "-")
          × (next ≡ row_text t.from)
      | n ∷ until ↦ IsFirstGap (n ∷ until) met next spans
    ])

-- ---- a run

-- what joining writes: the solutions of all texts, numbered anew as far as numbers go
abbrev pub joined : List SpanText → List ℕ
joined texts = flat_map solution_text (enumerate_from 1 (take most_counted (flat_map (λ t. t.found) texts)))

-- its end, by how many solutions these texts have
abbrev pub end_of_texts : List SpanText → End
end_of_texts texts =
    let n = sum_by (λ t. t.count) texts in if nat_lt n most_counted then Done n else Limit most_counted

-- a text is a beginning of another
abbrev pub IsBeginning : List ℕ → List ℕ → Type 0
IsBeginning text whole = (tail : List ℕ) × (text ++ tail ≡ whole)

-- this is so of whatever texts these bytes may be, of spans of any problems
abbrev pub ForShapes : Bool → (List SpanText → Type 0) → List ℕ → Type 0
ForShapes listed says bytes = (texts : List SpanText) → AreShapes listed texts bytes → says texts

-- This is so of all that a source gave, with its end; or of all that begins with what it gave.
abbrev pub OfInput : (List ℕ → Type 0) → SourceState → SourceState → Type 0
OfInput says old new = (bytes : List ℕ) × ((GaveAll old new bytes × says bytes)
    ⊎ (Gave old new bytes × ((more : List ℕ) → says (bytes ++ more))))

-- 0: The source gave texts of spans of one problem, which meet from the listing's beginning to its end; the output took
-- their solutions, and the last line says how many there are.
pub record IsJoined {O E : Type 0} (listed : Bool) (from to : SourceState) (old new : Sinks O E) : Type 0 where
  pub texts : List SpanText
  pub gave : GaveAll from to (flat_map (bytes_of listed) texts)
  pub shapes : All (HasShape listed) texts
  pub meet : DoMeet [] (spans_in texts)
  pub one : AreOfOneProblem texts
  pub taken : TookAll old.out.state new.out.state (joined texts)
  pub told : Took old.err.state new.err.state (summary_text (end_of_texts texts))

-- A text was written so, and this is so of whatever texts the input may be, or begin: what was written is a beginning
-- of what joining them writes.
pub record HasBegun (listed : Bool) (says : List SpanText → Type 0) (from to : SourceState)
    (written : List ℕ → Type 0) : Type 0 where
  pub text : List ℕ
  pub is_written : written text
  pub of : OfInput (ForShapes listed (λ texts. IsBeginning text (joined texts) × says texts)) from to

-- the front of a message about a line of a file, or of standard input
abbrev pub at_line : Option (List ℕ) → ℕ → List ℕ
at_line file line = source_text file ++ codes "line " ++ decimal line ++ codes ": "

-- the message about ends that don't meet
abbrev pub gap_text : Option (List ℕ) → ℕ → List ℕ → List ℕ → List ℕ
gap_text file line met next =
    at_line file line ++ codes "gap from " ++ met ++ codes " until " ++ next ++ codes ".\n"

-- the message about what isn't the text of a span
abbrev pub no_text : Option (List ℕ) → ℕ → List ℕ
no_text file line = at_line file line ++ codes "not the text of a span.\n"

-- the message about a text of another problem than the first one, and where that begins
abbrev pub other_text : Option (List ℕ) → ℕ → Option (List ℕ) → ℕ → List ℕ
other_text file line first begun = at_line file line ++ codes "another problem than in " ++ source_text first
    ++ codes "line " ++ decimal begun ++ codes ".\n"

-- the message about a failed read
abbrev pub unread_text : Option (List ℕ) → List ℕ
unread_text file = source_text file ++ codes "read failed.\n"

-- What failed at its last call, and was reported: a read of a file or of standard input, without its name where there
-- was no memory for that; or a write of the output or its flush; or the last line broke off.
abbrev pub HasFailed : {O E : Type 0} → Bool → List (List ℕ) → SourceState → SourceState → Sinks O E → Sinks O E
    → Type 0
HasFailed listed files from to old new =
    let told = WasTold old.err.state new.err.state in
    let begun = HasBegun listed (λ _. Unit {0}) from to in
    (Rose from.failures to.failures × begun (TookAll old.out.state new.out.state)
    × (OfSource files (λ file. told (unread_text file)) ⊎ told (codes "Read failed.\n")))
    ⊎ (begun (λ text. BrokeOff old.out.state new.out.state text ⊎ FailedBehind old.out.state new.out.state text)
    × told (codes "Write failed.\n"))
    ⊎ ((to.failures ≡ from.failures) × begun (TookAll old.out.state new.out.state)
    × ((end : End) × BrokeOff old.err.state new.err.state (summary_text end)))

-- No read failed and no write, and the output was flushed once behind a text.
abbrev pub HasStopped : {O E : Type 0} → Bool → SourceState → SourceState → Sinks O E → Sinks O E
    → (List SpanText → Type 0) → Type 0
HasStopped listed from to old new says =
    (to.failures ≡ from.failures) × HasBegun listed says from to (TookAll old.out.state new.out.state)

-- ends that don't meet were reported
abbrev pub ToldGap : List (List ℕ) → (List ℕ → Type 0) → List ℕ → List ℕ → Type 0
ToldGap files told met next = OfSource files (λ file. (line : ℕ) × told (gap_text file line met next))

-- a text of another problem than the first one was reported, with where that begins
abbrev pub ToldOther : (List ℕ → Type 0) → Option (List ℕ) → Option (List ℕ) → Type 0
ToldOther told first file = (line : ℕ) × (begun : ℕ) × told (other_text file line first begun)

-- What a run did with this first word and these files, by its status. At 2 the input is no texts, and begins none; at 5
-- the spans don't meet, or are of more than one problem.
abbrev pub DidJoin : {O E : Type 0} → Bool → List (List ℕ) → ℕ → SourceState → SourceState → Sinks O E → Sinks O E
    → Type 0
DidJoin listed files status from to old new =
    let told = WasTold old.err.state new.err.state in let stopped = HasStopped listed from to old new in
    ((status ≡ 0) × IsJoined listed from to old new)
    ⊎ ((status ≡ 2) × stopped (λ _. ⊥) × OfSource files (λ file. (line : ℕ) × told (no_text file line)))
    ⊎ ((status ≡ 3) × HasFailed listed files from to old new)
    ⊎ ((status ≡ 4) × stopped (λ _. Unit {0}) × told (codes "Out of memory.\n"))
    ⊎ ((status ≡ 5) × (met : List ℕ) × (next : List ℕ) × stopped (λ texts. IsFirstGap [] met next (spans_in texts))
    × ToldGap files told met next)
    ⊎ ((status ≡ 5) × stopped (λ texts. AreOfOneProblem texts → ⊥)
    × OfSource files (λ first. OfSource files (ToldOther told first)))

-- What a run did, by its words and its status, which is 1 exactly if the first word is none of the two.
abbrev pub DidJoinWords : {S O E : Type 0} → List (List ℕ) → ℕ → Seen S SourceState → Seen S SourceState
    → Sinks O E → Sinks O E → Type 0
DidJoinWords words status from to old new = MatchOption (asked_join words)
    ((to ≡ from) × IsRefused status old new (1, codes "Usage: dlx-join m0|m1 [FILE..]\n"))
    (λ listed. DidJoin listed (drop 1 words) status from.state to.state old new)
