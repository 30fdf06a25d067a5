-- What is written: options, pages, members and spans.
-- No public contract rests on this file.
use Rattle.std.specs.Prelude.{ℕ, ◌==◌, List, [], ◌++◌, decimal, codes, if◌then◌else◌, ◌≡◌, ◌≤◌, ◌∷◌, length, map}
use Rattle.std.specs.Prelude.{flat_map, ◌+◌, take, drop, Result, MatchResult, ◌*◌, ◌^◌, Some, ◌-◌, ◌⊎◌, true, false}
use Rattle.std.specs.Prelude.{Option, None, IfSome, IsSomeAnd, unwrap_or, Bool, IsSome, option_map}
use Rattle.xc_input.specs.declared.problem.Use.{Use}
use Rattle.xc_input.specs.Named.{Named}
use Rattle.xc_input.specs.inner.Stored.{pieces, AreStarts}
use Rattle.xc_input.specs.declared.problem.Bounds.{Bounds}
use Rattle.xc_input.specs.Problem.{numbered_get, Puzzle}
use Rattle.xc_search.specs.declared.marks.Mark.{Mark}
use Rattle.xc_search.specs.Marks.{marked}
use Rattle.xc_search.specs.declared.choice.Choice.{Choice}
use Rattle.xc_search.specs.Outlook.{Outlook}
use Rattle.xc_search.specs.Listing.{whole}
use Rattle.xc_search.specs.Spans.{precedes, between}
use Rattle.xc_search.specs.Nodes.{IsRowOf}
use Rattle.xc_search.specs.Room.{room_for}
use Rattle.xc_search.specs.InSpan.{InSpan, left_of, row_or_end, branches_along}
use Rattle.xc_search.specs.declared.went.Halt.{Halt}
use Rattle.xc_search.specs.declared.went.Went.{Went}
use Rattle.xc_search.specs.declared.went.Halt.TheVariants.{Member, End, Steps}
use Rattle.xc_check.specs.UseTexts.{use_word}
use Rattle.xc_list.specs.Output.{choice_text, member_text, is_printed}
use Rattle.xc_list.specs.declared.places.TheConstants.{PADDING, LINES}
use Rattle.xc_list.specs.declared.places.Line.{Line}
use Rattle.xc_text.specs.Texts.{SinkState, Took, BrokeOff}
use Rattle.xc_list.specs.declared.places.Held.{Held}
use Rattle.xc_list.specs.Digests.{length_first}
use Rattle.xc_list.specs.declared.ends.End.{End as RunEnd}
use Rattle.xc_list.specs.declared.ends.End.TheVariants.{Done, Limit, WriteFailed}
use Rattle.xc_list.specs.SpanTexts.{row_text, listing_text, problem_part}
use Rattle.xc_list.specs.SpanWords.{AskedSpan}
use Rattle.xc_list.specs.SpanRuns.{OfSpan}

-- ======== The parts of lines, each as it is written.

-- a space and the word of a use
abbrev pub use_text : Named → Use → List ℕ
use_text a u = codes " " ++ use_word a u

-- branch k of n, to the end of the line
abbrev pub branch_text : ℕ → ℕ → List ℕ
branch_text k n = codes " (" ++ decimal k ++ codes " of " ++ decimal n ++ codes ")\n"

-- ======== The texts of options laid out one after another.

-- the text of an option's uses in file order
abbrev pub uses_text : Named → List Use → List ℕ
uses_text a us = flat_map (use_text a) us

-- the texts of options one after another, with the places where they start and at last the length
pub record AreLaid (a : Named) (options : List (List Use)) (texts starts : List ℕ) : Type 0 where
  pub rising : AreStarts starts (length texts)
  pub parts : pieces starts texts ≡ map (uses_text a) options

-- the same with a few bytes after the texts, so that a short one can be read at once
pub record ArePadded (a : Named) (options : List (List Use)) (texts starts : List ℕ) : Type 0 where
  pub laid : List ℕ
  pub padding : List ℕ
  pub long : PADDING ≤ length padding
  pub whole : texts ≡ laid ++ padding
  pub are_laid : AreLaid a options laid starts

-- the item of an option's first use; 0 where it has none
abbrev pub first_item : List Use → ℕ
first_item [] = 0
first_item (u ∷ us) = u.item

-- ======== A text that is put together on a page before it is written to the sink.

-- what a page holds between two places
abbrev pub held_text : List ℕ → ℕ → ℕ → List ℕ
held_text page from to = drop from (take to page)

-- A text was put after what was held: the sink took the front of both, and what is held now is the rest.
pub record Puts (old new : SinkState) (before after text : List ℕ) : Type 0 where
  pub front : List ℕ
  pub took : Took old new front
  pub whole : before ++ text ≡ front ++ after

-- A text was put so, or the sink broke off in what was held with the text after it.
abbrev pub IsPut : {E : Type 0} → SinkState → SinkState → List ℕ → Result Held E → List ℕ → List ℕ → Type 0
IsPut old new before r page text =
    MatchResult r (λ h. Puts old new before (held_text page h.from h.to) text)
    (λ _. BrokeOff old new (before ++ text))

-- the line of a mark
abbrev pub line_text : Named → Line → List ℕ
line_text a l = choice_text a (marked a.puzzle l.mark)

-- where lines end that are on a page after the header's place
abbrev pub lines_end : Named → List Line → ℕ
lines_end a ls = LINES + length (flat_map (line_text a) ls)

-- each line says where it ends, the first of them after a place
abbrev pub AreEnds : Named → ℕ → List Line → Type 0
AreEnds a at [] = Unit {0}
AreEnds a at (l ∷ ls) = (l.end ≡ at + length (line_text a l)) × AreEnds a l.end ls

-- Lines are on a page after the header's place, and each says where it ends.
pub record AreKept (a : Named) (page : List ℕ) (ls : List Line) : Type 0 where
  pub text : take (length (flat_map (line_text a) ls)) (drop LINES page) ≡ flat_map (line_text a) ls
  pub ends : AreEnds a LINES ls

-- the first n of the lines are these and the mark's
pub record MatchMark (n : ℕ) (ls before : List Line) (m : Mark) : Type 0 where
  pub within : n ≤ length ls
  pub end : ℕ
  pub lines : take n ls ≡ before ++ record { mark = m; end = end } ∷ []

-- ======== The parts of a problem as numbers.

-- 0x9e3779b97f4a7c15 and 0x243f6a8885a308d3
abbrev pub digest_multiplier : ℕ
digest_multiplier = 11400714819323198485

abbrev pub digest_start : ℕ
digest_start = 2611923443488327891

-- bounds
abbrev pub bounds_numbers : Bounds → List ℕ
bounds_numbers b = b.low ∷ b.high ∷ []

-- a name or a colour
abbrev pub bytes_numbers : List ℕ → List ℕ
bytes_numbers bytes = length_first (λ byte. byte ∷ []) bytes

-- a use; items are below 2^32
abbrev pub use_number : Use → ℕ
use_number u = u.item + u.colour * 2 ^ 32

-- an option
abbrev pub uses_numbers : List Use → List ℕ
uses_numbers us = length_first (λ u. use_number u ∷ []) us

-- ======== How far a search went that writes its members, and what it writes of one.

-- the text of the member with this number, if it is printed
abbrev pub printed_text : Named → ℕ → ℕ × List Choice → List ℕ
printed_text a spacing nm = if is_printed spacing nm.0 then member_text a nm else []

-- A search is at the member with this number: that is the one it shows, and those after it are to come.
abbrev pub StandsAt : List (List Choice) → ℕ → Outlook → Type 0
StandsAt ms n s = (1 ≤ n → numbered_get ms n ≡ Some s.shown) × (s.to_come ≡ drop n ms)

-- How far a search went that ended so: past the last member, or to the one with the end's number and no further
abbrev pub WentTo : List (List Choice) → Outlook → RunEnd → Type 0
WentTo ms s (Done n) = (s.shown ≡ []) × (s.to_come ≡ [])
WentTo ms s (Limit n) = StandsAt ms n s
WentTo ms s (WriteFailed t) = StandsAt ms t s

-- ======== A span as it is written, piece by piece.

-- a number after a point
abbrev pub dotted : ℕ → List ℕ
dotted k = codes "." ++ decimal k

-- numbers with points between
abbrev pub numbers_text : List ℕ → List ℕ
numbers_text [] = []
numbers_text (n ∷ row) = decimal n ++ flat_map dotted row

-- the number at a place of a row, after a point where it isn't the first
abbrev pub text_at : ℕ → ℕ → List ℕ
text_at place n = if place == 0 then decimal n else dotted n

-- the row that a search is at, and how many branches each level has
abbrev pub row_in : InSpan → List ℕ
row_in s = unwrap_or s.row []

abbrev pub branches_in : InSpan → List ℕ
branches_in s = branches_along (whole s.puzzle) (row_in s)

-- up to where a search came that halted so
abbrev pub until_text : InSpan → List ℕ → Halt → List ℕ
until_text s until End = row_text until
until_text s until _ = numbers_text (row_in s) ++ codes " of " ++ numbers_text (branches_in s)

-- the counts of a record
abbrev pub counts_text : Went → List ℕ
counts_text went = codes " solutions " ++ decimal went.members ++ codes " steps " ++ decimal went.steps

-- the two rows of a record, of a search that halted so
abbrev pub rows_text : InSpan → List ℕ → List ℕ → Halt → List ℕ
rows_text s from until halt = codes "from " ++ row_text from ++ codes " until " ++ until_text s until halt

-- the record of a search that went so, of the problem of this digest
abbrev pub told_text : InSpan → List ℕ → List ℕ → Went → List ℕ → List ℕ
told_text s from until went digest = rows_text s from until went.halt ++ counts_text went ++ problem_part digest

-- the end of a text with this digest
abbrev pub closing : List ℕ → List ℕ
closing digest = codes " text " ++ digest ++ codes "\n"

-- what is written of members, if they are listed
abbrev pub written_text : Named → Bool → List ℕ → List (List Choice) → List ℕ
written_text a listed from ms = if listed then listing_text a from ms else []

-- the members that are left from a row on
abbrev pub left_at : Puzzle → Option (List ℕ) → Option (List ℕ) → List (List Choice)
left_at p until row = unwrap_or (option_map (λ row. between p row until) row) []

-- A search of a span that ends before `until` went on from one row to another, by the first of the members that were
-- left. It came to the end; or it stopped at a later row, since it had no more steps, or at the most members.
pub record WentOn (p : Puzzle) (until from to : Option (List ℕ)) (most : ℕ) (went : Went) : Type 0 where
  pub passed : IfSome from (λ row. between p row (row_or_end to until) ≡ take went.members (left_at p until from))
  pub count : went.members ≤ length (left_at p until from)
  pub few : went.steps ≤ most
  pub ended : went.halt ≡ End → (to ≡ None) × (went.members ≡ length (left_at p until from))
  pub later : IfSome from (λ a. IfSome to (λ b. precedes a b ≡ true))
  pub stands : (went.halt ≡ Member) ⊎ (went.halt ≡ Steps) → IsSome from
      × IsSomeAnd to (λ row. IfSome until (λ until. precedes until row ≡ false))
  pub steps : went.halt ≡ Steps → went.steps ≡ most
  pub most_members : went.halt ≡ Member → went.members ≡ 2 ^ 64 - 1

-- A search was just begun over this problem, at the row `from`.
pub record BeginsAt (p : Puzzle) (from : List ℕ) (end : Option (List ℕ)) (s : InSpan) : Type 0 where
  pub puzzle : s.puzzle ≡ p
  pub until : s.until ≡ end
  pub left : left_of s ≡ between p from end
  pub row : IfSome s.row (λ row. (precedes row from ≡ false) × (between p from (Some row) ≡ []))
  pub node : IfSome s.row (λ row. IsRowOf (whole p) row)

-- What the text of a span came to.
abbrev pub SpanWritten : {E : Type 0} → Named → AskedSpan → SinkState → SinkState → Result Went E → Type 0
SpanWritten a asked old new r = MatchResult r (λ went. OfSpan a asked went Took old new)
    (λ _. (went : Went) × OfSpan a asked went BrokeOff old new)

-- From s to n a search that was asked so often to go on took so many steps, and few moves.
pub record GoesFew (calls steps : ℕ) (s n : InSpan) : Type 0 where
  pub taken : s.begun + steps ≤ n.begun
  pub moves : n.made + room_for s.puzzle * s.begun ≤ s.made + room_for s.puzzle * (n.begun + 2 * calls)
  pub begun : n.begun ≤ s.begun + steps + calls
