-- What is left of a problem, as lists of numbers and as words of bits.
-- No public contract rests on this file.
use Rattle.std.specs.Prelude.{ℕ, ◌≡◌, ◌<◌, ◌≤◌, ◌≢◌, ◌^◌, Bool, List, AllPairs, Some, filter, map, not}
use Rattle.std.specs.Prelude.{◌==◌, slice_get, slice_index, length, is_some, flat_map}
use Rattle.std.specs.Int.{bit_at}
use Rattle.std.specs.List.{list_any}
use Rattle.xc_input.specs.Problem.{Puzzle, Numbered, uses_of, colour_in, holds}
use Rattle.xc_input.specs.declared.problem.Use.{Use}
use Rattle.xc_moves.specs.declared.dance.Move.{Move}
use Rattle.xc_moves.specs.Moves.{listed, agrees}
use Rattle.xc_moves.specs.Commits.{first_primary}
use Rattle.xc_words.specs.declared.words.Words.{Words}
use Rattle.xc_search.specs.Listing.{Wanted, Residual, stays}

-- of these options those whose first primary item is i
abbrev pub owned : Puzzle → ℕ → List Numbered → List Numbered
owned p i os = filter (λ o. first_primary p o.uses == i) os

-- the numbers of the options in the lists of these items, each at its first primary item
abbrev pub collected : Puzzle → List Move → List ℕ → List ℕ
collected p t is = flat_map (λ i. map (λ o. o.number) (owned p i (listed p t i))) is

-- of two options, these uses hold an item that those hold too, and they don't agree on its colour
abbrev pub share : List Use → List Use → Bool
share us vs = list_any (λ u. not (agrees u.colour (colour_in vs u.item))) us

-- The words are those of these items and options, each at its bit: of each item the options that hold it, and of each
-- option its items and the options that share an item with it on which they don't agree.
pub record AreUseWords (p : Puzzle) (is os : List ℕ) (w : Words) : Type 0 where
  pub few_items : length is ≤ 64
  pub few_options : length os ≤ 64
  pub alone_fits : (x : ℕ) → slice_index w.alone x < 2 ^ 64
  pub apart_fits : (x : ℕ) → slice_index w.apart x < 2 ^ 64
  pub holders : (i x j o : ℕ) → slice_get is i ≡ Some j → slice_get os x ≡ Some o
      → (bit_at (slice_index w.holders i) x == 1) ≡ is_some (colour_in (uses_of p o) j)
  pub alone : (i x j o : ℕ) → slice_get is i ≡ Some j → slice_get os x ≡ Some o
      → (bit_at (slice_index w.alone x) i == 1) ≡ is_some (colour_in (uses_of p o) j)
  pub apart : (x y o q : ℕ) → slice_get os x ≡ Some o → slice_get os y ≡ Some q
      → (bit_at (slice_index w.apart x) y == 1) ≡ share (uses_of p o) (uses_of p q)

-- The words are those of what is left, whose items are to be held once: its items in order, and its options as os
-- numbers them.
pub record AreWordsOf (r : Residual) (os : List ℕ) (w : Words) : Type 0 where
  pub few_items : length r.items ≤ 64
  pub few_options : length os ≤ 64
  pub once : (w : Wanted) (i : ℕ) → slice_get r.items i ≡ Some w → (w.low ≡ 1) × (w.high ≡ 1)
  -- os are the numbers of the options, each once
  pub distinct : AllPairs (λ x y. x ≢ y) os
  pub numbered : (i : ℕ) (o : Numbered) → slice_get r.options i ≡ Some o → (x : ℕ) × (slice_get os x ≡ Some o.number)
  pub known : (x k : ℕ) → slice_get os x ≡ Some k → (i : ℕ) × (o : Numbered) × (slice_get r.options i ≡ Some o)
      × (o.number ≡ k)
  pub alone_fits : (x : ℕ) → slice_index w.alone x < 2 ^ 64
  pub apart_fits : (x : ℕ) → slice_index w.apart x < 2 ^ 64
  pub holders : (i j x : ℕ) (v : Wanted) (o : Numbered) → slice_get r.items i ≡ Some v → slice_get r.options j ≡ Some o
      → slice_get os x ≡ Some o.number → (bit_at (slice_index w.holders i) x == 1) ≡ holds o v.item
  pub alone : (i j x : ℕ) (v : Wanted) (o : Numbered) → slice_get r.items i ≡ Some v → slice_get r.options j ≡ Some o
      → slice_get os x ≡ Some o.number → (bit_at (slice_index w.alone x) i == 1) ≡ holds o v.item
  pub apart : (i j x y : ℕ) (o q : Numbered) → slice_get r.options i ≡ Some o → slice_get r.options j ≡ Some q
      → slice_get os x ≡ Some o.number → slice_get os y ≡ Some q.number
      → (bit_at (slice_index w.apart x) y == 1) ≡ not (stays r o q)
