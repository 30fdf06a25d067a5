-- What the words of a run over a span mean.
-- Public contracts rest on this file: readers must believe it.
use Rattle.std.specs.Prelude.{ℕ, ◌^◌, ◌==◌, Bool, true, false, not, List, [], ◌∷◌, Option, Some, None, codes}
use Rattle.std.specs.Prelude.{nat_lt, option_map, option_and_then, if◌then◌else◌, ◌&&◌, is_some}
use Rattle.std.specs.List.{slice_split}
use Rattle.std.specs.Str.{byte, bytes_eq}
use Rattle.xc_search.specs.Spans.{precedes}
use Rattle.xc_text.specs.LongNumbers.{long_number}
use Rattle.xc_list.specs.declared.asked.SpanWords.{SpanWords}

-- What a run is to do: whether solutions are listed, or else counted alone; how many steps it takes at most, with 0
-- for no bound; the row at which the span begins; and the one before which it ends, with the empty row for the
-- listing's end.
pub record AskedSpan : Type 0 where
  pub listed : Bool
  pub steps : ℕ
  pub from : List ℕ
  pub until : List ℕ

-- the same as the code holds it
abbrev pub asked_of : SpanWords → AskedSpan
asked_of w = record { listed = w.listed; steps = w.steps; from = w.from.items; until = w.until.items }

-- whether a word means a listing, or a count alone
abbrev pub listing_word : List ℕ → Option Bool
listing_word w = if bytes_eq w (codes "m0") then Some false else if bytes_eq w (codes "m1") then Some true else None

-- the number of a row that digits mean, below 2^32
abbrev pub row_number : List ℕ → Option ℕ
row_number w = option_and_then (λ n. if nat_lt n (2 ^ 32) then Some n else None) (long_number w)

-- the numbers that texts mean, if each means one
abbrev pub row_numbers : List (List ℕ) → Option (List ℕ)
row_numbers [] = Some []
row_numbers (w ∷ ws) = option_and_then (λ n. option_map (λ row. n ∷ row) (row_numbers ws)) (row_number w)

-- the row that a word means: numbers with points between, or a dash for the empty row
abbrev pub row_word : List ℕ → Option (List ℕ)
row_word w = if bytes_eq w (codes "-") then Some [] else row_numbers (slice_split (λ b. b == byte ".") w)

-- a span can't end before the row at which it begins; the empty row stands for the listing's end
abbrev pub is_span : List ℕ → List ℕ → Bool
is_span from [] = true
is_span from (n ∷ row) = not (precedes (n ∷ row) from)

-- a span between two rows, if it is one
abbrev pub asked_rows : Bool → ℕ → List ℕ → List ℕ → Option AskedSpan
asked_rows listed steps from until =
    if is_span from until then Some (record { listed = listed; steps = steps; from = from; until = until }) else None

-- the span between the rows that two words mean
abbrev pub asked_words : Bool → ℕ → List ℕ → List ℕ → Option AskedSpan
asked_words listed steps from until = option_and_then (λ (f : List ℕ).
    option_and_then (λ (u : List ℕ). asked_rows listed steps f u) (row_word until)) (row_word from)

-- whether reading words takes memory: four are right but for their rows, which may be
abbrev pub take_memory : List (List ℕ) → Bool
take_memory (m ∷ n ∷ from ∷ until ∷ []) = is_some (listing_word m) && is_some (long_number n)
take_memory _ = false

-- what four words mean: a listing or a count, the most steps, and the two rows
abbrev pub read_span_words : List (List ℕ) → Option AskedSpan
read_span_words (m ∷ n ∷ from ∷ until ∷ []) = option_and_then (λ listed.
    option_and_then (λ steps. asked_words listed steps from until) (long_number n)) (listing_word m)
read_span_words _ = None
