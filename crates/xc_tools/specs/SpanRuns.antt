-- What a whole run over a span of a listing does.
-- Public contracts rest on this file: readers must believe it.
use Rattle.std.specs.Prelude.{ℕ, ◌^◌, ◌<◌, ◌≡◌, ◌⊎◌, List, [], ◌∷◌, Option, None, MatchOption, codes, option_map}
use Rattle.std.specs.Prelude.{option_and_then}
use Rattle.std.specs.Prelude.{All, Bool, false, flat_map, is_some, ◌&&◌, IsTrue}
use Rattle.xc_input.specs.declared.kind.Kind.{Kind}
use Rattle.xc_input.specs.Named.{Named}
use Rattle.xc_text.specs.Sources.{SourceState}
use Rattle.xc_search.specs.Cover.{EachMemberCovers, EachCoverIsListedOnce}
use Rattle.xc_search.specs.declared.went.Went.{Went}
use Rattle.xc_list.specs.SearchedSpans.{SearchedSpan, IsSpan, text_of}
use Rattle.xc_list.specs.SpanRuns.{OfSpan}
use Rattle.xc_list.specs.SpanWords.{AskedSpan, is_span, read_span_words, take_memory}
use Rattle.xc_text.specs.Texts.{Seen, SinkState}
use Rattle.xc_tools.specs.Arguments.{asked_span, take_memory_of}
use Rattle.xc_tools.specs.WholeRuns.{Sinks, Prints, IsRefused, ReadsProblem}

-- What searching a span of a problem's listing did: the text of the span up to where its search went was printed, which
-- has status 0, and the listing's members are covers, and each cover is the set of exactly one of them; or there was no
-- memory for the search, at 4.
abbrev pub DidSpan : {O E : Type 0} → Named → AskedSpan → ℕ → Sinks O E → Sinks O E → Type 0
DidSpan a asked status old new =
    ((went : Went) × OfSpan a asked went (λ _ _. Prints 0 status old new) old.out.state new.out.state
    × EachMemberCovers a.puzzle × EachCoverIsListedOnce a.puzzle)
    ⊎ IsRefused status old new (4, codes "Out of memory.\n")

-- What a run over a span did, by its words and its status: there was no memory to read them; or they mean no span;
-- or it did what they mean.
abbrev pub DidSpanWords : {S O E : Type 0} → List (List ℕ) → ℕ → Seen S SourceState → Seen S SourceState
    → Sinks O E → Sinks O E → Type 0
DidSpanWords words status from to old new =
    (IsTrue (take_memory_of words) × (to ≡ from) × IsRefused status old new (4, codes "Out of memory.\n"))
    ⊎ MatchOption (asked_span words)
    ((to ≡ from) × IsRefused status old new (1, codes "Usage: dlx-span 1|2|3 m0|m1 STEPS FROM UNTIL\n"))
    (λ asked. ReadsProblem asked.0 from.state to.state (λ a _. DidSpan a asked.1 status old new)
    (IsRefused status old new))

-- ---- texts of spans, one after another

-- These are the texts of spans of a problem, one after another.
pub record AreTexts (a : Named) (listed : Bool) (spans : List SearchedSpan) (text : List ℕ) : Type 0 where
  pub each : All (IsSpan a) spans
  pub whole : flat_map (text_of a listed) spans ≡ text

-- A run over a span of a problem wrote this text, from this row up to that one, and its members were counted.
pub record IsWritten (a : Named) (listed : Bool) (from until text : List ℕ) : Type 0 where
  pub asked : AskedSpan
  pub is_asked : (asked.listed ≡ listed) × (asked.from ≡ from) × IsTrue (is_span asked.from asked.until)
  pub went : Went
  pub counted : went.members < 2 ^ 64
  pub old : SinkState
  pub new : SinkState
  pub of : OfSpan a asked went (λ _ _ written. written ≡ text) old new
  pub up_to : of.row ≡ until

-- The first text was written from this row on, each other one from where the one before it stopped, and the last up to
-- the listing's end.
abbrev pub AreWritten : Named → Bool → List ℕ → List (List ℕ) → Type 0
AreWritten a listed row [] = ⊥
AreWritten a listed row (text ∷ texts) = (until : List ℕ) × IsWritten a listed row until text
    × elim until [ [] ↦ texts ≡ [] | n ∷ until ↦ AreWritten a listed (n ∷ until) texts ]
