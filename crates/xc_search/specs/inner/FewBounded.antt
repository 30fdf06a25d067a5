-- What is left of a problem whose items have bounds, as words of bits.
-- No public contract rests on this file.
use Rattle.std.specs.Prelude.{ℕ, ◌≡◌, ◌≢◌, ◌<◌, ◌≤◌, ◌-◌, ◌==◌, ◌&&◌, ◌||◌, ◌⊎◌, Bool, List, Option, Some, not, nat_lt}
use Rattle.std.specs.Prelude.{min, slice_get, slice_index, length, is_some, All, Contains, IfSome}
use Rattle.std.specs.Int.{bit_at}
use Rattle.std.specs.List.{list_any}
use Rattle.xc_input.specs.Problem.{Puzzle, uses_of, colour_in, low_at, high_at, primary_count}
use Rattle.xc_input.specs.declared.problem.Use.{Use}
use Rattle.xc_moves.specs.declared.dance.Move.{Move}
use Rattle.xc_moves.specs.Moves.{listed, agrees, spends, IsOpenPrimary}
use Rattle.xc_words.specs.declared.bounded.BoundedWords.{BoundedWords}
use Rattle.xc_search.specs.inner.Filled.{differs_at}

-- what is left of the item's bounds
abbrev pub low_left : Puzzle → List Move → ℕ → ℕ
low_left p t i = low_at p i - spends i t

abbrev pub high_left : Puzzle → List Move → ℕ → ℕ
high_left p t i = high_at p i - spends i t

-- An item with so many options, and with these bounds left, needn't be watched: it need not be held, and may be held by
-- each of its options, or, where it isn't held by all n that are left, as often as options may be taken.
abbrev pub LetsGo : ℕ → ℕ → ℕ → ℕ → Option ℕ → Type 0
LetsGo len low high n most =
    (low ≡ 0) × ((len ≤ high) ⊎ ((m : ℕ) × (most ≡ Some m) × (len ≢ n) × (m ≤ high)))

-- an open item that all n options that are left hold may be held m times more, which is less
abbrev pub IsCappedAt : Puzzle → List Move → ℕ → ℕ → Type 0
IsCappedAt p t n m = (j : ℕ) × IsOpenPrimary p t j × (length (listed p t j) ≡ n) × (high_left p t j ≡ m) × (m < n)

-- these are open items, each of which may have to be held by so many as words have bits; no other has to be watched
-- where n options are left
pub record AreWatched (p : Puzzle) (t : List Move) (n : ℕ) (is : List ℕ) : Type 0 where
  pub most : Option ℕ
  pub capped : IfSome most (IsCappedAt p t n)
  pub opened : All (IsOpenPrimary p t) is
  pub few : All (λ i. low_left p t i ≤ 64) is
  pub rest : (i : ℕ) → IsOpenPrimary p t i → Contains is i
      ⊎ LetsGo (length (listed p t i)) (low_left p t i) (high_left p t i) n most

-- a use by which an option may keep others apart: of an item that may be held only once more, or of a secondary one
abbrev pub binds : Puzzle → List Move → Use → Bool
binds p t u = nat_lt (primary_count p) u.item || high_left p t u.item == 1

-- of two options, these uses bind an item that those hold too, and they don't agree on its colour
abbrev pub clash : Puzzle → List Move → List Use → List Use → Bool
clash p t us vs = list_any (λ u. binds p t u && not (agrees u.colour (colour_in vs u.item))) us

-- by the words of items, and of items with n colours, the option at place y clashes with these uses
abbrev pub clashes_at : Puzzle → List Move → ℕ → List ℕ → List ℕ → List Use → ℕ → Bool
clashes_at p t n holders coloured us y = list_any (λ u. binds p t u && differs_at n holders coloured u y) us

-- The words are those of these items and options, each at its bit: of each item the options that hold it and what is
-- left of its bounds, and of each option those that clash with it, and the items of which it may be one of several.
pub record AreBoundedUseWords (p : Puzzle) (t : List Move) (is os : List ℕ) (w : BoundedWords) : Type 0 where
  pub few_items : length is ≤ 64
  pub few_options : length os ≤ 64
  pub low : (i j : ℕ) → slice_get is i ≡ Some j → slice_index w.low i ≡ min (low_left p t j) 64
  pub high : (i j : ℕ) → slice_get is i ≡ Some j → slice_index w.high i ≡ min (high_left p t j) 64
  pub holders : (i x j o : ℕ) → slice_get is i ≡ Some j → slice_get os x ≡ Some o
      → (bit_at (slice_index w.holders i) x == 1) ≡ is_some (colour_in (uses_of p o) j)
  pub many : (i x j o : ℕ) → slice_get is i ≡ Some j → slice_get os x ≡ Some o
      → (bit_at (slice_index w.many x) i == 1) ≡ (is_some (colour_in (uses_of p o) j) && not (high_left p t j == 1))
  pub many_known : (i x o : ℕ) → slice_get os x ≡ Some o → bit_at (slice_index w.many x) i ≡ 1 → i < length is
  pub apart : (x y o q : ℕ) → slice_get os x ≡ Some o → slice_get os y ≡ Some q
      → (bit_at (slice_index w.apart x) y == 1) ≡ clash p t (uses_of p o) (uses_of p q)
