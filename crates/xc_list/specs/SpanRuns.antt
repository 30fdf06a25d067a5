-- How far a run over a span comes, and what it wrote.
-- Public contracts rest on this file: readers must believe it.
use Rattle.std.specs.Prelude.{ℕ, ◌^◌, ◌-◌, ◌<◌, ◌≤◌, ◌≡◌, ◌⊎◌, ◌==◌, false, List, Option, Some, None, IfSome, length}
use Rattle.std.specs.Prelude.{◌+◌, ◌*◌, true, Result, Ok, Err, if◌then◌else◌, [], ◌∷◌}
use Rattle.xc_input.specs.Problem.{Puzzle}
use Rattle.xc_input.specs.Named.{Named}
use Rattle.xc_search.specs.Listing.{whole}
use Rattle.xc_search.specs.Room.{room_for}
use Rattle.xc_search.specs.Spans.{precedes, between}
use Rattle.xc_search.specs.InSpan.{branches_along}
use Rattle.xc_search.specs.Nodes.{IsRowOf}
use Rattle.xc_search.specs.declared.went.Went.{Went}
use Rattle.xc_search.specs.declared.went.Halt.TheVariants.{Member, End, Steps}
use Rattle.xc_list.specs.SpanTexts.{end_at}
use Rattle.xc_list.specs.SearchedSpans.{SearchedSpan, IsSpan, text_of}
use Rattle.xc_list.specs.SpanWords.{AskedSpan, is_span}
use Rattle.xc_text.specs.Texts.{Seen, SinkState, Took, BrokeOff}
use Rattle.xc_list.specs.declared.ends.SpanFault.{SpanFault}
use Rattle.xc_list.specs.declared.ends.SpanFault.TheVariants.{Memory, WriteFailed}

-- how many steps a run takes at most; 0 means no bound but the counter's
abbrev pub most_steps : ℕ → ℕ
most_steps n = if n == 0 then 2 ^ 64 - 1 else n

-- A search of the wanted span stopped at this row of the tree, which comes after its first row and not after its end,
-- since all steps were used or as many members passed as are counted.
pub record StopsAt (p : Puzzle) (asked : AskedSpan) (row : List ℕ) (went : Went) : Type 0 where
  pub node : IsRowOf (whole p) row
  pub later : precedes asked.from row ≡ true
  pub within : IfSome (end_at asked.until) (λ until. precedes until row ≡ false)
  pub spent : ((went.halt ≡ Steps) × (went.steps ≡ most_steps asked.steps))
      ⊎ ((went.halt ≡ Member) × (went.members ≡ 2 ^ 64 - 1))

-- It went up to this row: the span's end; or one where it stopped, whose levels have so many branches.
abbrev pub GoesTo : Puzzle → AskedSpan → List ℕ → Option (List ℕ) → Went → Type 0
GoesTo p asked row None went = (went.halt ≡ End) × (row ≡ asked.until)
GoesTo p asked row (Some branches) went = StopsAt p asked row went × (branches ≡ branches_along (whole p) row)

-- the span up to where it went
abbrev pub searched : AskedSpan → List ℕ → Option (List ℕ) → Went → SearchedSpan
searched asked row branches went =
    record { from = asked.from; until = row; branches = branches; steps = went.steps }

-- This is so of a sink and the text of the span up to where a search went, in no more steps than the words allow. It is
-- a span if the words ask for one and its members can be counted.
pub record OfSpan (a : Named) (asked : AskedSpan) (went : Went)
    (says : SinkState → SinkState → List ℕ → Type 0) (old new : SinkState) : Type 0 where
  pub row : List ℕ
  pub branches : Option (List ℕ)
  pub goes : GoesTo a.puzzle asked row branches went
  pub few : went.steps ≤ most_steps asked.steps
  pub members : length (between a.puzzle asked.from (end_at row)) ≡ went.members
  pub is_one : is_span asked.from asked.until ≡ true → went.members < 2 ^ 64
      → IsSpan a (searched asked row branches went)
  pub said : says old new (text_of a asked.listed (searched asked row branches went))

-- What a run over a span returns: the sink took the text up to where it went; or it broke off in such a text; or, where
-- there was no memory for the search, the sink wasn't touched.
abbrev pub AnswersSpan : {S : Type 0} → Named → AskedSpan → Seen S SinkState → Seen S SinkState
    → Result Went SpanFault → Type 0
AnswersSpan a asked old new (Ok went) = OfSpan a asked went Took old.state new.state
AnswersSpan a asked old new (Err e) = elim e [
  | Memory ↦ new ≡ old
  | WriteFailed ↦ (went : Went) × OfSpan a asked went BrokeOff old.state new.state
]

-- A run over a span that went so took its dance from so many moves ever made to so many: for each of its steps, each
-- number of its first row, and three times for each member and twice more, no more than can be on the trail at once.
abbrev pub SpanMakesFew : Puzzle → AskedSpan → ℕ → ℕ → Went → Type 0
SpanMakesFew p asked old new went = new ≤ old + room_for p
    * (length asked.from + went.steps + 3 * (went.members + 2))

-- Searches each began at the row where the one in front of it stopped, the first at this row.
abbrev pub StopInTurn : Puzzle → List ℕ → List (AskedSpan × List ℕ × Went) → Type 0
StopInTurn p from [] = Unit {0}
StopInTurn p from (s ∷ runs) = (s.0.from ≡ from) × StopsAt p s.0 s.1 s.2 × StopInTurn p s.1 runs
