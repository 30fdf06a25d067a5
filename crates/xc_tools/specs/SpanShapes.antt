-- The shape of the text of a span: what can be seen of it without its problem.
-- Public contracts rest on this file: readers must believe it.
use Rattle.std.specs.Prelude.{ℕ, ◌^◌, ◌<◌, ◌≡◌, All, Bool, true, false, List, [], ◌∷◌, ◌++◌, IsTrue, IfSome, Some}
use Rattle.std.specs.Prelude.{length}
use Rattle.std.specs.Prelude.{◌==◌, ◌&&◌, ◌||◌, nat_le, map, flat_map, decimal, codes, if◌then◌else◌}
use Rattle.std.specs.Char.{is_ascii_digit}
use Rattle.std.specs.List.{enumerate_from, list_all}
use Rattle.std.specs.Str.{byte}
use Rattle.xc_text.specs.Words.{has}
use Rattle.xc_search.specs.Spans.{is_before, precedes}
use Rattle.xc_check.specs.ListingLines.{branch_number}
use Rattle.xc_list.specs.SearchedSpans.{AreSmall, SearchedSpan}
use Rattle.xc_list.specs.SpanTexts.{closed_text, end_at, heading_text, record_front}

-- a hexadecimal digit in lower case
abbrev pub is_hex : ℕ → Bool
is_hex b = is_ascii_digit b || (nat_le (byte "a") b && nat_le b (byte "f"))

-- 16 hexadecimal digits
abbrev pub is_digest : List ℕ → Bool
is_digest word = length word == 16 && list_all is_hex word

-- A listed solution: its row, and its choice lines.
pub record ListedSolution : Type 0 where
  pub row : List ℕ
  pub lines : List (List ℕ)

-- the lines are choice lines, and the numbers of their branches the row
pub record IsSolution (s : ListedSolution) : Type 0 where
  pub choices : map branch_number s.lines ≡ map Some s.row
  pub no_feeds : All (λ line. has 10 line ≡ false) s.lines

-- The text of a span: the span, how many solutions it has, these if they are listed, and the digest of its problem.
pub record SpanText : Type 0 where
  pub span : SearchedSpan
  pub count : ℕ
  pub found : List ListedSolution
  pub digest : List ℕ

-- a solution with its number
abbrev pub solution_text : ℕ × ListedSolution → List ℕ
solution_text ns = decimal ns.0 ++ codes ":\n" ++ flat_map (λ line. line ++ codes "\n") ns.1.lines

-- its bytes, closed by their digest
abbrev pub bytes_of : Bool → SpanText → List ℕ
bytes_of listed t = closed_text (
    (if listed then heading_text t.span.from t.digest ++ flat_map solution_text (enumerate_from 1 t.found) else [])
    ++ record_front t.span.from t.span.until t.span.branches t.count t.span.steps t.digest)

-- Each row comes after the one in front of it, and the last before the span's end.
abbrev pub Rise : List ℕ → List (List ℕ) → List ℕ → Type 0
Rise last [] until = is_before (end_at until) last ≡ true
Rise last (row ∷ rows) until = (precedes last row ≡ true) × Rise row rows until

-- The rows of a span rise, from its first row on; if there is none, it doesn't end before it begins.
abbrev pub LieIn : List ℕ → List (List ℕ) → List ℕ → Type 0
LieIn from [] until = IfSome (end_at until) (λ u. precedes u from ≡ false)
LieIn from (row ∷ rows) until = (precedes row from ≡ false) × Rise row rows until

-- it lists as many solutions as it says, or none at all
abbrev pub TellsCount : Bool → SpanText → Type 0
TellsCount true t = length t.found ≡ t.count
TellsCount false t = t.found ≡ []

-- This may be the text of a span of some problem.
pub record HasShape (listed : Bool) (t : SpanText) : Type 0 where
  pub each : All IsSolution t.found
  pub rows : LieIn t.span.from (map (λ s. s.row) t.found) t.span.until
  pub counted : TellsCount listed t
  pub from : AreSmall t.span.from
  pub until : AreSmall t.span.until
  pub branches : IfSome t.span.branches AreSmall
  pub steps : t.span.steps < 2 ^ 64
  pub few : t.count < 2 ^ 64
  pub digest : IsTrue (is_digest t.digest)

-- These are such texts, one after another.
pub record AreShapes (listed : Bool) (texts : List SpanText) (bytes : List ℕ) : Type 0 where
  pub each : All (HasShape listed) texts
  pub whole : flat_map (bytes_of listed) texts ≡ bytes
