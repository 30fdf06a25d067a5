-- Sets of items and options as words of 64 bits.
-- Public contracts rest on this file: readers must believe it.
use Rattle.std.specs.Prelude.{ℕ, ◌≡◌, ◌<◌, ◌^◌, Bool, true, List, filter, ◌==◌, slice_index, sum_by}
use Rattle.std.specs.Int.{bit_at, bit_not, w64}
use Rattle.std.specs.Int.Bits.{bit_and}
use Rattle.std.specs.List.{range_with_len}

-- of the n places from a on, those whose bits are set
abbrev pub bits_from : ℕ → ℕ → ℕ → List ℕ
bits_from a n m = filter (λ x. bit_at m x == 1) (range_with_len a n)

-- the members of a set
abbrev pub bits_of : ℕ → List ℕ
bits_of m = bits_from 0 64 m

-- the members of a that aren't in b
abbrev pub and_not : ℕ → ℕ → ℕ
and_not a b = bit_and a (bit_not w64 b)

-- A count of what is left: a word of options, and one of the items that are open. Where that is good, the count is 1
-- if no item is open, and else, whichever open item is taken, the sum over its options that are left of the count of
-- what stays beside each; and what stays is good again.
pub record CountsBranches (holders alone apart : List ℕ) (good : ℕ → ℕ → Bool) (count : ℕ → ℕ → ℕ) : Type 0 where
  pub none_open : (left : ℕ) → good left 0 ≡ true → count left 0 ≡ 1
  pub by_item : (left items i : ℕ) → left < 2 ^ 64 → items < 2 ^ 64 → good left items ≡ true → i < 64
      → bit_at items i ≡ 1
      → count left items
      ≡ sum_by (λ x. count (and_not left (slice_index apart x)) (and_not items (slice_index alone x)))
      (bits_of (bit_and (slice_index holders i) left))
  pub kept : (left items i x : ℕ) → left < 2 ^ 64 → items < 2 ^ 64 → good left items ≡ true → i < 64
      → bit_at items i ≡ 1 → x < 64 → bit_at (bit_and (slice_index holders i) left) x ≡ 1
      → good (and_not left (slice_index apart x)) (and_not items (slice_index alone x)) ≡ true

-- each option that is left of an open item has it among its items, by which it closes it
abbrev pub HasOwn : List ℕ → List ℕ → ℕ → ℕ → Type 0
HasOwn holders alone left items = (i x : ℕ) → i < 64 → x < 64 → bit_at items i ≡ 1 → bit_at left x ≡ 1
    → bit_at (slice_index holders i) x ≡ 1 → bit_at (slice_index alone x) i ≡ 1
