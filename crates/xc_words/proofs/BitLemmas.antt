-- The members of a set without its first one.
use Rattle.std.proofs.Common.{ℕ, zero, suc, ◌≡◌, ◌≢◌, ◌<◌, ◌≤◌, ◌^◌, ◌+◌, ◌%◌, ◌∷◌, refl, arith, sym, ◌∙◌, ap}
use Rattle.std.proofs.Common.{inl, inr, ◌-◌, ◌/◌}
use Rattle.std.specs.Int.{bit_at, bit_not, w64, trailing_zeros}
use Rattle.std.specs.Int.Bits.{bit_and}
use Rattle.std.specs.Prelude.{sum_by}
use Rattle.std.proofs.lemmas.Nat.Bits.{bit_at-trailing_zeros, bit_at_and, bit_at-lt, bit_at_lowest, bit_at-suc}
use Rattle.std.proofs.lemmas.Nat.Bits.{bit_at_not, bit_at-zero}
use Rattle.std.proofs.lemmas.Nat.{and_le_l, and_le_r}
use Rattle.std.proofs.lemmas.List.Sums.{sum_by-cons}
use Rattle.std.proofs.lemmas.Bool.{cases_lt}
use Rattle.std.proofs.Math.Nat.{eq-or-lt_of_le}
use Rattle.xc_words.specs.Words.{bits_from, bits_of, and_not}

-- the same bits from a place on
same_bits : (a n m k : ℕ) → ((i : ℕ) → a ≤ i → i < a + n → bit_at m i ≡ bit_at k i)
    → bits_from a n m ≡ bits_from a n k
same_bits a zero m k same = refl
same_bits a (suc n) m k same =
    let rest = same_bits (suc a) n m k (λ i l h. same i (omega (arith, l)) (omega (arith, h))) in
    let here = same a (omega arith) (omega arith) in
    grind (arith, rest, here)

-- a set and the set without its first member
first_bit : (a n m k t : ℕ) → a ≤ t → t < a + n → ((i : ℕ) → a ≤ i → i < t → bit_at m i ≡ 0) → bit_at m t ≡ 1
    → bit_at k t ≡ 0 → ((i : ℕ) → i < a + n → i ≢ t → bit_at k i ≡ bit_at m i) → bits_from a n m ≡ t ∷ bits_from a n k
first_bit a zero m k t l h low one gone same = absurd (omega (arith, l, h))
first_bit a (suc n) m k t l h low one gone same = elim (eq-or-lt_of_le l) [
  | inl e ↦
      let rest = same_bits (suc a) n m k (λ i j s. sym (same i (omega (arith, s)) (λ q. omega (arith, q, e, j)))) in
      grind (arith, rest, e, one, gone)
  | inr e ↦
      let rest = first_bit (suc a) n m k t e (omega (arith, h)) (λ i j s. low i (omega (arith, j)) s) one gone
      (λ i j s. same i (omega (arith, j)) s) in
      let no = low a (omega arith) (omega (arith, e)) in
      let nor = same a (omega arith) (λ q. omega (arith, q, e)) in
      grind (arith, rest, no, nor)
]

-- the bits of the number before, from the lowest bit that is set on
pub before_lowest : (t m : ℕ) → bit_at m t ≡ 1 → ((i : ℕ) → i < t → bit_at m i ≡ 0)
    → (bit_at (m - 1) t ≡ 0) × ((i : ℕ) → t < i → bit_at (m - 1) i ≡ bit_at m i)
before_lowest zero m one low =
    let odd : m % 2 ≡ 1 = sym (bit_at_lowest m) ∙ one in
    (bit_at_lowest (m - 1) ∙ omega (arith, odd), above odd)
  where
    above : m % 2 ≡ 1 → (i : ℕ) → 0 < i → bit_at (m - 1) i ≡ bit_at m i
    above odd zero l = absurd (omega (arith, l))
    above odd (suc i) l =
        let half : (m - 1) / 2 ≡ m / 2 = omega (arith, odd) in
        bit_at-suc (m - 1) i ∙ ap (λ n. bit_at n i) half ∙ sym (bit_at-suc m i)
before_lowest (suc t) m one low =
    let even : m % 2 ≡ 0 = sym (bit_at_lowest m) ∙ low 0 (omega arith) in
    let below = before_lowest t (m / 2) (sym (bit_at-suc m t) ∙ one)
    (λ i l. sym (bit_at-suc m i) ∙ low (suc i) (omega (arith, l))) in
    let half : (m - 1) / 2 ≡ m / 2 - 1 = omega (arith, even) in
    (bit_at-suc (m - 1) t ∙ ap (λ n. bit_at n t) half ∙ below.0, above half below.1)
  where
    above : (m - 1) / 2 ≡ m / 2 - 1 → ((i : ℕ) → t < i → bit_at (m / 2 - 1) i ≡ bit_at (m / 2) i)
        → (i : ℕ) → suc t < i → bit_at (m - 1) i ≡ bit_at m i
    above half same zero l = absurd (omega (arith, l))
    above half same (suc i) l =
        bit_at-suc (m - 1) i ∙ ap (λ n. bit_at n i) half ∙ same i (omega (arith, l)) ∙ sym (bit_at-suc m i)

-- the word without its lowest bit
abbrev pub cleared : ℕ → ℕ
cleared m = bit_and m (m - 1)

-- the bit is gone, and the others stay
pub lowest_gone : (m t : ℕ) → bit_at m t ≡ 1 → ((i : ℕ) → i < t → bit_at m i ≡ 0) → bit_at (cleared m) t ≡ 0
lowest_gone m t one low = omega (arith, bit_at_and m (m - 1) t, (before_lowest t m one low).0)

pub others_stay : (m t : ℕ) → bit_at m t ≡ 1 → ((i : ℕ) → i < t → bit_at m i ≡ 0)
    → (i : ℕ) → i ≢ t → bit_at (cleared m) i ≡ bit_at m i
others_stay m t one low i apart = elim (cases_lt i t) [
  | inl l ↦ omega (arith, bit_at_and m (m - 1) i, low i l)
  | inr l ↦ omega (arith, bit_at_and m (m - 1) i, (before_lowest t m one low).1 i (omega (arith, l, apart)))
]

pub bits_cleared : (m : ℕ) → 0 < m → m < 2 ^ 64 → bits_of m ≡ trailing_zeros w64 m ∷ bits_of (cleared m)
bits_cleared m some fits =
    let t = bit_at-trailing_zeros w64 m some fits in
    first_bit 0 64 m (cleared m) (trailing_zeros w64 m) (omega arith) t.0 (λ i l h. t.2 i h) t.1
    (lowest_gone m _ t.1 t.2) (λ i l apart. others_stay m _ t.1 t.2 i apart)

-- what is in a set without some is in the set
pub from_without : (a b i : ℕ) → bit_at (bit_and a b) i ≡ 1 → bit_at a i ≡ 1
from_without a b i e = omega (arith, bit_at_and a b i, bit_at-lt a i, e)

pub from_both : (a b i : ℕ) → bit_at (bit_and a b) i ≡ 1 → (bit_at a i ≡ 1) × (bit_at b i ≡ 1)
from_both a b i e =
    let both = bit_at_and a b i in
    let one = bit_at-lt a i in
    let two = bit_at-lt b i in
    (omega (arith, both, one, e), omega (arith, both, two, e))

-- without a member there are fewer; a b past 64 bits leaves none
pub without_less : (a b i : ℕ) → i < 64 → bit_at a i ≡ 1 → bit_at b i ≡ 1 → and_not a b < a
without_less a b i within one two = elim (cases_lt b (2 ^ 64)) [
  | inl fits ↦
      let gone : bit_at (and_not a b) i ≡ 0 =
      omega (arith, bit_at_and a (bit_not w64 b) i, bit_at_not w64 b i fits within, two) in
      let other : and_not a b ≢ a = λ e. omega (arith, ap (λ m. bit_at m i) e, gone, one) in
      omega (arith, other, and_le_l a (bit_not w64 b))
  | inr past ↦
      let some : a ≢ 0 = λ e. omega (arith, ap (λ m. bit_at m i) e, bit_at-zero i, one) in
      let none : bit_not w64 b ≡ 0 = omega (arith, past) in
      omega (arith, some, none, and_le_r a (bit_not w64 b))
]

-- a sum over no members, and over one
pub none_in : (f : ℕ → ℕ) (m : ℕ) → m ≡ 0 → sum_by f (bits_of m) ≡ 0
none_in f m e = ap (λ n. sum_by f (bits_of n)) e

pub only_one : (f : ℕ → ℕ) (m : ℕ) → 0 < m → m < 2 ^ 64 → cleared m ≡ 0
    → sum_by f (bits_of m) ≡ f (trailing_zeros w64 m)
only_one f m some fits e =
    let parts = ap (sum_by f) (bits_cleared m some fits) in
    let first = sum_by-cons f (trailing_zeros w64 m) (bits_of (cleared m)) in
    omega (arith, parts, first, none_in f (cleared m) e)

-- a sum at its beginning, and one member on
pub begun : (n m : ℕ) → m ≡ n → 0 + n ≡ m
begun n m e = omega (arith, e)

pub one_on : (f : ℕ → ℕ) (of sum found whole : ℕ) → 0 < of → of < 2 ^ 64 → sum + sum_by f (bits_of of) ≡ whole
    → found ≡ f (trailing_zeros w64 of) → sum + found + sum_by f (bits_of (cleared of)) ≡ whole
one_on f of sum found whole some fits e one =
    let parts = ap (sum_by f) (bits_cleared of some fits) in
    let first = sum_by-cons f (trailing_zeros w64 of) (bits_of (cleared of)) in
    omega (arith, e, parts, first, one)
