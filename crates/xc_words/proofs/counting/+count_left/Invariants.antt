use Rattle.std.proofs.Common.{◌≡◌, ◌<◌, ◌≤◌, ◌+◌, ℕ, Bool, true}
use Rattle.std.specs.Prelude.{sum_by, slice_index}
use Rattle.std.specs.Int.{bit_at}
use Rattle.xc_words.specs.Words.{CountsBranches, HasOwn, bits_of, and_not}
use Rattle.xc_words.proofs.counting.+count_left.Given as goal

abbrev pub decreases-count_left : goal.decreases-count_left
decreases-count_left l = l.items

-- what is left has the count of what was left at first
abbrev pub invariant-loop-items : goal.invariant-loop-items
invariant-loop-items l = (l.budget ≤ l.fn.budget) × (l.items ≤ l.items-2)
    × HasOwn l.words.holders l.words.alone l.left l.items
    × ((good : ℕ → ℕ → Bool) → (count : ℕ → ℕ → ℕ)
    → CountsBranches l.words.holders l.words.alone l.words.apart good count → good l.left-2 l.items-2 ≡ true
    → (good l.left l.items ≡ true) × (count l.left l.items ≡ count l.left-2 l.items-2))

abbrev pub decreases-loop-items : goal.decreases-loop-items
decreases-loop-items l = l.items

-- what is counted and what is still to be counted make up the whole
abbrev pub invariant-loop-of : goal.invariant-loop-of
invariant-loop-of l = (l.sum ≤ l.most) × (l.budget ≤ l.fn.budget)
    × ((x : ℕ) → x < 64 → bit_at l.of x ≡ 1 → and_not l.items (slice_index l.words.alone x) < l.items)
    × ((good : ℕ → ℕ → Bool) → (count : ℕ → ℕ → ℕ)
    → CountsBranches l.words.holders l.words.alone l.words.apart good count → good l.left-2 l.items-2 ≡ true
    → ((x : ℕ) → x < 64 → bit_at l.of x ≡ 1
    → good (and_not l.left (slice_index l.words.apart x)) (and_not l.items (slice_index l.words.alone x)) ≡ true)
    × (l.sum + sum_by (λ x. count (and_not l.left (slice_index l.words.apart x))
    (and_not l.items (slice_index l.words.alone x))) (bits_of l.of) ≡ count l.left-2 l.items-2))

abbrev pub decreases-loop-of : goal.decreases-loop-of
decreases-loop-of l = l.of
