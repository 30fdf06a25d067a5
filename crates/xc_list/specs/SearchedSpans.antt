-- Spans as they were searched.
-- Public contracts rest on this file: readers must believe it.
use Rattle.std.specs.Prelude.{ℕ, ◌^◌, ◌<◌, ◌≡◌, false, All, Bool, List, length, Option, IfSome}
use Rattle.xc_input.specs.Named.{Named}
use Rattle.xc_search.specs.declared.choice.Choice.{Choice}
use Rattle.xc_search.specs.Spans.{between, precedes}
use Rattle.xc_list.specs.SpanTexts.{end_at, span_text}

-- A span as it was searched: its first row; the one before which it ends, where the empty row stands for the listing's
-- end; the branches of the row where the search stopped before that, if it did; and how many steps it took.
pub record SearchedSpan : Type 0 where
  pub from : List ℕ
  pub until : List ℕ
  pub branches : Option (List ℕ)
  pub steps : ℕ

-- the members of a span
abbrev pub members_of : Named → SearchedSpan → List (List Choice)
members_of a s = between a.puzzle s.from (end_at s.until)

-- the text of a span
abbrev pub text_of : Named → Bool → SearchedSpan → List ℕ
text_of a listed s = span_text a listed s.from s.until s.branches s.steps

-- numbers below 2^64
abbrev pub AreSmall : List ℕ → Type 0
AreSmall row = All (λ n. n < 2 ^ 64) row

-- A span of a problem ends no earlier than it begins, and all of its numbers are below 2^64.
pub record IsSpan (a : Named) (s : SearchedSpan) : Type 0 where
  pub forward : IfSome (end_at s.until) (λ u. precedes u s.from ≡ false)
  pub from : AreSmall s.from
  pub until : AreSmall s.until
  pub branches : IfSome s.branches AreSmall
  pub steps : s.steps < 2 ^ 64
  pub few : length (members_of a s) < 2 ^ 64
