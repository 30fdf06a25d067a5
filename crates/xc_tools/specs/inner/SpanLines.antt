-- What is made of the lines of the texts of spans, word by word and one by one.
-- No public contract rests on this file.
use Rattle.std.specs.Prelude.{ℕ, ◌+◌, ◌==◌, ◌&&◌, ◌||◌, not, nat_lt, Bool, true, false, ◌≡◌, List, [], ◌∷◌, ◌++◌}
use Rattle.std.specs.Prelude.{length, take, drop, nat_le, slice_get, Option, Some, None, if◌then◌else◌, ◌-◌, ◌*◌, min}
use Rattle.std.specs.Prelude.{map, fold, decimal, codes, option_map, Result, Ok, Err}
use Rattle.std.specs.List.{list_all, slice_split}
use Rattle.std.specs.Str.{byte, bytes_eq}
use Rattle.xc_search.specs.Spans.{precedes}
use Rattle.xc_list.specs.Digests.{after_text, begun_digest, digits_of}
use Rattle.xc_list.specs.SpanTexts.{most_counted}
use Rattle.xc_list.specs.declared.text_digest.TextDigest.{TextDigest}
use Rattle.xc_text.specs.Words.{before_last}
use Rattle.xc_check.specs.ListingLines.{branch_number, words_in}
use Rattle.xc_tools.specs.declared.joint.Rising.{Rising}
use Rattle.xc_tools.specs.SpanShapes.{is_digest}
use Rattle.xc_tools.specs.declared.headings.Counts.{Counts}
use Rattle.xc_tools.specs.declared.headings.Heading.{Heading}
use Rattle.xc_tools.specs.declared.headings.Record.{Record}
use Rattle.xc_tools.specs.declared.outcomes.Act.{Act}
use Rattle.xc_tools.specs.declared.outcomes.Act.TheVariants.{Nothing, Copy, Header}
use Rattle.xc_tools.specs.declared.joint.Joint.{Joint}
use Rattle.xc_tools.specs.declared.outcomes.Refusal.{Refusal}
use Rattle.xc_tools.specs.declared.outcomes.Refusal.TheVariants.{NotText, Other, Gap, Memory}

-- ======== How the row of an open solution stands beside the one before it.

-- the row before, and how many of its first numbers are those of the open one; none where this is past it, and then it
-- is here in its place
pub record Risen : Type 0 where
  pub row : List ℕ
  pub tied : Option ℕ

-- the same as the code holds it
abbrev pub risen : Rising → Risen
risen r = record { row = r.row.items; tied = r.tied }

-- past the row before from this depth on
abbrev pub past_at : Risen → ℕ → ℕ → Risen
past_at r depth k = record { row = take depth r.row ++ k ∷ []; tied = None }

-- behind a number more at this depth; none where the open row comes before the one before it
abbrev pub beside : Risen → ℕ → ℕ → Option ℕ → Option Risen
beside r depth k None = Some (past_at r depth k)
beside r depth k (Some n) =
    if nat_lt k n then None
    else if k == n then Some (record r { tied = Some (depth + 1) })
    else Some (past_at r depth k)

-- behind a number more
abbrev pub risen_after : Risen → ℕ → Option Risen
risen_after r k = elim r.tied [
  | None ↦ Some (record r { row = r.row ++ k ∷ [] })
  | Some depth ↦ beside r depth k (slice_get r.row depth)
]

-- what taking a number more answers
abbrev pub TakesNumber : Risen → ℕ → Bool → Risen → Type 0
TakesNumber old k true new = risen_after old k ≡ Some new
TakesNumber old k false new = risen_after old k ≡ None

-- whether the open row, which ends, comes after the one before it, or is that where it may be
abbrev pub has_risen : Risen → Bool → Bool
has_risen r may_be_same = elim r.tied [ None ↦ true | Some depth ↦ may_be_same && depth == length r.row ]

-- whether a span may end here after so many solutions, of which the last has this row, or after none from it on
abbrev pub ends_before : List ℕ → ℕ → List ℕ → Bool
ends_before row found until =
    length until == 0 || (if found == 0 then not (precedes until row) else precedes row until)

-- ======== What the words of headings and records mean.

-- what the words of a heading mean
pub record Headed : Type 0 where
  pub row : List ℕ
  pub digest : List ℕ

-- the last words of a record: how many solutions, and of which problem
pub record ToldCounts : Type 0 where
  pub solutions : ℕ
  pub digest : List ℕ

-- what the words of a record mean
pub record Told : Type 0 where
  pub from : List ℕ
  pub until : List ℕ
  pub counts : ToldCounts

-- the number that digits stand for, up to 2^64 - 1
abbrev pub saturating_number : List ℕ → ℕ
saturating_number digits = fold (λ n b. min most_counted (min most_counted (n * 10) + (b - byte "0"))) 0 digits

-- a number as it is written
abbrev pub is_number : List ℕ → Bool
is_number word = bytes_eq word (decimal (saturating_number word))

-- the parts of a row's word
abbrev pub row_parts : List ℕ → List (List ℕ)
row_parts word = slice_split (λ b. b == byte ".") word

-- a dash, or numbers with points between
abbrev pub is_row : List ℕ → Bool
is_row word = bytes_eq word (codes "-") || list_all is_number (row_parts word)

-- the numbers of a row
abbrev pub numbers_in : List ℕ → List ℕ
numbers_in word = if bytes_eq word (codes "-") then [] else map saturating_number (row_parts word)

-- the words of a problem's digest
abbrev pub is_problem : List ℕ → List ℕ → Bool
is_problem name digest = bytes_eq name (codes "problem") && is_digest digest

-- the words of the row where a listing begins
abbrev pub begins : List ℕ → List ℕ → Bool
begins from row = bytes_eq from (codes "from") && is_row row

-- what these words mean, if they are a heading
abbrev pub heading_of : List (List ℕ) → Option Headed
heading_of (from ∷ row ∷ name ∷ digest ∷ []) =
    if begins from row && is_problem name digest
    then Some (record { row = row; digest = digest }) else None
heading_of _ = None

-- the words of two counts
abbrev pub are_counts : List ℕ → List ℕ → List ℕ → List ℕ → Bool
are_counts s n t m = bytes_eq s (codes "solutions") && bytes_eq t (codes "steps") && is_number n && is_number m

-- what the last words of a record mean
abbrev pub recorded_counts : List (List ℕ) → Option ToldCounts
recorded_counts (s ∷ n ∷ t ∷ m ∷ name ∷ digest ∷ []) =
    if are_counts s n t m && is_problem name digest
    then Some (record { solutions = saturating_number n; digest = digest }) else None
recorded_counts _ = None

-- the same after the branches of a row, if they are reported
abbrev pub counts_of : List (List ℕ) → Option ToldCounts
counts_of (o ∷ row ∷ rest) =
    if bytes_eq o (codes "of") && is_row row then recorded_counts rest else recorded_counts (o ∷ row ∷ rest)
counts_of words = recorded_counts words

-- the words of the rows where a span begins and ends
abbrev pub are_ends : List ℕ → List ℕ → List ℕ → List ℕ → Bool
are_ends a from b until = bytes_eq a (codes "from") && bytes_eq b (codes "until") && is_row from && is_row until

-- what these words mean, if they are a record
abbrev pub record_of : List (List ℕ) → Option Told
record_of (a ∷ from ∷ b ∷ until ∷ rest) =
    if are_ends a from b until
    then option_map (λ counts. record { from = from; until = until; counts = counts }) (counts_of rest) else None
record_of _ = None

-- the same as the code holds it
abbrev pub headed_of : Heading → Headed
headed_of h = record { row = h.row.now; digest = h.digest.now }

abbrev pub counted_of : Counts → ToldCounts
counted_of c = record { solutions = c.solutions; digest = c.digest.now }

abbrev pub told_of : Record → Told
told_of r = record {
  from = r.from.now;
  until = r.until.now;
  counts = record { solutions = r.solutions; digest = r.digest.now };
}

-- what is before the digest of a text in its last line, if this is the digest of the text up to there
abbrev pub before_digest : TextDigest → List ℕ → Option (List ℕ)
before_digest text line =
    let front = take (length line - 22) line in let last = drop (length line - 22) line in
    if nat_le 22 (length line) && bytes_eq (take 6 last) (codes " text ")
    && bytes_eq (drop 6 last) (digits_of (after_text text front))
    then Some front else None

-- ======== What is made of the lines of the texts of spans, one by one.

-- How far texts were read: whether they are listings; the digest of the first one's problem, once there is one; that of
-- the bytes of the open text up to now; the word of the row where the last one ended, and whether that was the end of
-- the listing; how many solutions the open text has, if one is open, and the row of the last one; how many there are in
-- all, and whether there are more than that.
pub record Join : Type 0 where
  pub listed : Bool
  pub digest : List ℕ
  pub text : TextDigest
  pub met : List ℕ
  pub finished : Bool
  pub found : Option ℕ
  pub rising : Risen
  pub total : ℕ
  pub full : Bool

-- the state after lines: it goes on; a line was none of a text; a text is of another problem than the first; or ends
-- don't meet, these two
pub data Stand : Type 0 where
  goes : Join → Stand
  faulty : Stand
  mixed : Stand
  apart : List ℕ → List ℕ → Stand

-- a header of this number
abbrev pub is_header : ℕ → List ℕ → Bool
is_header n line = elim (before_last (byte ":") line) [ None ↦ false | Some front ↦ bytes_eq front (decimal n) ]

-- a text may begin at this row
abbrev pub meets : Join → List ℕ → Bool
meets s row = not s.finished && bytes_eq row s.met

-- a text is of the same problem as the first one, or is that
abbrev pub is_same : Join → List ℕ → Bool
is_same s digest = length s.digest == 0 || bytes_eq digest s.digest

-- a text of a problem begins at this row, which leads to a state, or it does not meet the last one
abbrev pub begins_at : Join → List ℕ → List ℕ → Stand → Stand × List ℕ
begins_at s digest row next =
    if not (is_same s digest) then (mixed, []) else if meets s row then (next, []) else (apart s.met row, [])

-- a text ended at this row
abbrev pub closed : Join → List ℕ → Join
closed s until = record s { text = begun_digest; met = until; finished = bytes_eq until (codes "-"); found = None }

-- a line was taken into the digest of the open text
abbrev pub line_noted : Join → List ℕ → Join
line_noted s line = record s { text = after_text s.text (line ++ 10 ∷ []) }

-- what is made of the last line of a text, where it tells the digest of that
abbrev pub by_digest : Join → List ℕ → (List (List ℕ) → Stand × List ℕ) → Stand × List ℕ
by_digest s line next = elim (before_digest s.text line) [ None ↦ (faulty, []) | Some front ↦ next (words_in front) ]

-- where a listing begins
abbrev pub opened : Join → Headed → Join
opened s h = record s {
  digest = h.digest;
  found = Some 0;
  rising = record s.rising { row = numbers_in h.row };
}

-- a heading
abbrev pub by_heading : Join → List (List ℕ) → Stand × List ℕ
by_heading s words =
    elim (heading_of words) [ None ↦ (faulty, []) | Some h ↦ begins_at s h.digest h.row (goes (opened s h)) ]

-- the state behind a record alone
abbrev pub recorded : Join → Told → Join
recorded s r = closed (record s {
  digest = r.counts.digest;
  rising = record s.rising { row = numbers_in r.from };
  total = min most_counted (s.total + r.counts.solutions);
}) r.until

-- a record alone
abbrev pub by_record : Join → List (List ℕ) → Stand × List ℕ
by_record s words = elim (record_of words) [
  | None ↦ (faulty, [])
  | Some r ↦
      if ends_before (numbers_in r.from) 0 (numbers_in r.until)
      then begins_at s r.counts.digest r.from (goes (recorded s r))
      else (faulty, [])
]

-- the last one of so many solutions is whole, and its row rises
abbrev pub ends_well : Join → ℕ → Bool
ends_well s found = found == 0 || has_risen s.rising (found == 1)

-- whether this is the record of the open listing with so many solutions
abbrev pub is_last_record : Join → ℕ → Told → Bool
is_last_record s found r = bytes_eq r.from s.met && bytes_eq r.counts.digest s.digest && r.counts.solutions == found
    && ends_well s found && ends_before s.rising.row found (numbers_in r.until)

-- the record of a listing with so many solutions
abbrev pub by_last : Join → ℕ → List (List ℕ) → Stand × List ℕ
by_last s found words = elim (record_of words) [
  | None ↦ (faulty, [])
  | Some r ↦ if is_last_record s found r then (goes (closed s r.until), []) else (faulty, [])
]

-- the header of a solution, which has this number in its text
abbrev pub by_header : Join → ℕ → Stand × List ℕ
by_header s n = let begun = record s { found = Some n; rising = record s.rising { tied = Some 0 } } in
    if s.total == most_counted then (goes (record begun { full = true }), [])
    else (goes (record begun { total = s.total + 1 }), decimal (s.total + 1) ++ codes ":\n")

-- whether a line begins with this byte
abbrev pub begins_with : ℕ → List ℕ → Bool
begins_with byte [] = false
begins_with byte (b ∷ line) = b == byte

-- the state behind a choice line, if its branch has a number that may follow
abbrev pub row_after : Join → List ℕ → Option Risen
row_after s line = elim (branch_number line) [ None ↦ None | Some k ↦ risen_after s.rising k ]

-- a choice line
abbrev pub by_choice : Join → List ℕ → Stand × List ℕ
by_choice s line = elim (row_after s line) [
  | None ↦ (faulty, [])
  | Some r ↦ (goes (record s { rising = r }), if s.full then [] else line ++ 10 ∷ [])
]

-- a line of an open listing with so many solutions
abbrev pub inside : Join → ℕ → List ℕ → Stand × List ℕ
inside s found line =
    if begins_with 32 line && nat_lt 0 found then by_choice (line_noted s line) line
    else if begins_with 102 line then by_digest s line (by_last s found)
    else if nat_lt found most_counted && is_header (found + 1) line && ends_well s found
    then by_header (line_noted s line) (found + 1)
    else (faulty, [])

-- a line, and what is written for it
abbrev pub by_line : Join → List ℕ → Stand × List ℕ
by_line s line = elim s.found [
  | Some found ↦ inside s found line
  | None ↦ if s.listed then by_heading (line_noted s line) (words_in line) else by_digest s line (by_record s)
]

-- what is written for a line
abbrev pub act_text : Act → List ℕ → List ℕ
act_text Nothing line = []
act_text Copy line = line ++ 10 ∷ []
act_text (Header n) line = decimal n ++ codes ":\n"

-- how far the texts were read
abbrev pub join_of : Joint → Join
join_of j = record {
  listed = j.listed;
  digest = j.digest.items;
  text = j.text;
  met = j.met.items;
  finished = j.finished;
  found = j.found;
  rising = risen j.rising;
  total = j.total;
  full = j.full;
}

-- why no line is taken any more
abbrev pub RefusesLine : Refusal → Joint → Stand × List ℕ → Type 0
RefusesLine NotText new step = step ≡ (faulty, [])
RefusesLine Other new step = step ≡ (mixed, [])
RefusesLine Gap new step = step ≡ (apart new.met.items new.next.items, [])
RefusesLine Memory new step = Unit {0}

-- what taking a line answers, where this is to be done for it
abbrev pub TakesLine : Stand × List ℕ → List ℕ → Result Act Refusal → Joint → Type 0
TakesLine step line (Ok act) new = step ≡ (goes (join_of new), act_text act line)
TakesLine step line (Err e) new = RefusesLine e new step

-- a text of a problem comes: it is the first one, or of the same problem
abbrev pub KeepsProblem : Join → List ℕ → Result (Unit {0}) Refusal → Join → Type 0
KeepsProblem old digest (Ok _) new = (is_same old digest ≡ true) × (new ≡ record old { digest = digest })
KeepsProblem old digest (Err Other) new = is_same old digest ≡ false
KeepsProblem old digest (Err Memory) new = Unit {0}
KeepsProblem old digest (Err e) new = ⊥

-- why a text may not begin at a row
abbrev pub Unmet : Refusal → Bool → List ℕ → List ℕ → Type 0
Unmet Gap met next row = (met ≡ false) × (next ≡ row)
Unmet NotText met next row = ⊥
Unmet Other met next row = ⊥
Unmet Memory met next row = Unit {0}

-- nothing was read yet
abbrev pub start : Bool → Join
start listed = record {
  listed = listed;
  digest = [];
  text = begun_digest;
  met = codes "-";
  finished = false;
  found = None;
  rising = record { row = []; tied = None };
  total = 0;
  full = false;
}

-- the state after a line, and what is written for it
abbrev pub step : Stand → List ℕ → Stand × List ℕ
step (goes s) line = by_line s line
step faulty line = (faulty, [])
step mixed line = (mixed, [])
step (apart met next) line = (apart met next, [])

-- the state after these lines
abbrev pub stand_after : Stand → List (List ℕ) → Stand
stand_after stand [] = stand
stand_after stand (line ∷ lines) = stand_after (step stand line).0 lines

-- what is written for them
abbrev pub wrote : Stand → List (List ℕ) → List ℕ
wrote stand [] = []
wrote stand (line ∷ lines) = (step stand line).1 ++ wrote (step stand line).0 lines
