-- The branch that is found so far, and the options that stay so far.
use Rattle.std.proofs.Common.{ℕ, ◌≡◌, ◌<◌, ◌≤◌, ◌^◌, ◌+◌, ◌-◌, arith, sym, ◌∙◌, ap, inl, inr, ◌⊎◌, subst}
use Rattle.std.proofs.Common.{slice_index}
use Rattle.std.specs.Int.{bit_at, trailing_zeros, w64}
use Rattle.std.proofs.Math.Nat.{eq-or-lt_of_le}
use Rattle.std.proofs.lemmas.Nat.Bits.{bit_at-lt, bit_at-zero, bit_at-trailing_zeros}
use Rattle.xc_words.specs.declared.bounded.BoundedWords.{BoundedWords}
use Rattle.xc_words.specs.declared.bounded.Branch.{Branch}
use Rattle.xc_words.specs.Bounded.{times_in}
use Rattle.xc_words.specs.inner.Fair.{IsBranchOf, IsFullFor, IsMinus}
use Rattle.xc_words.proofs.BitLemmas.{cleared}
use Rattle.xc_words.proofs.FairLemmas.{by_bit, only_lowest}

-- a part of a set that lacks a member is less
pub less_of : (a s x : ℕ) → a ≤ s → bit_at a x ≡ 0 → bit_at s x ≡ 1 → a < s
less_of a s x l gone b = elim (eq-or-lt_of_le l) [
  | inl e ↦ absurd (omega (arith, ap (λ n. bit_at n x) e, gone, b))
  | inr k ↦ k
]

-- the members of a set that aren't in another
pub in_both : (a b rest y : ℕ) → IsMinus a b rest → y < 64 → bit_at rest y ≡ 1 → (bit_at a y ≡ 1) × (bit_at b y ≡ 0)
in_both a b rest y m l e =
    let two = m y l in
    let s = bit_at-lt a y in
    let t = bit_at-lt b y in
    (omega (arith, two, e, s, t), omega (arith, two, e, s, t))

pub in_other : (a b rest y : ℕ) → IsMinus a b rest → y < 64 → bit_at a y ≡ 1 → bit_at rest y ≡ 0 → bit_at b y ≡ 1
in_other a b rest y m l e gone = let two = m y l in omega (arith, two, e, gone, bit_at-lt b y)

-- ======== The branch.

-- none of the items that were looked at needs an option, or it is that of one
abbrev pub IsFound : BoundedWords → ℕ → ℕ → ℕ → ℕ → Branch → Type 0
IsFound w unmet set rest least b = ((b.need ≡ 0) × (b.options ≡ 2 ^ 64 - 1) × (least ≡ 4294967295)
    × ((i : ℕ) → i < 64 → bit_at unmet i ≡ 1 → bit_at rest i ≡ 0 → slice_index w.low i ≤ times_in w set i))
    ⊎ ((i : ℕ) × (i < 64) × (bit_at unmet i ≡ 1) × (b.options ≡ slice_index w.holders i)
    × (b.need + times_in w set i ≡ slice_index w.low i) × (0 < b.need))

module _ (w : BoundedWords) (unmet set rest least : ℕ) (b : Branch) where
  -- the next item needs none
  pub found_met : 0 < rest → rest < 2 ^ 64
      → slice_index w.low (trailing_zeros w64 rest) ≤ times_in w set (trailing_zeros w64 rest)
      → IsFound w unmet set rest least b → IsFound w unmet set (cleared rest) least b
  found_met some fits met (inl a) = inl (
    a.0,
    a.1,
    a.2,
    λ i l h gone. by_bit rest i
        (λ c. subst (λ j. slice_index w.low j ≤ times_in w set j) (sym (only_lowest rest i some fits l c gone)) met)
        (λ c. a.3 i l h c),
  )
  found_met some fits met (inr a) = inr a

  -- the next item leaves no fewer branches
  pub found_before : (branches : ℕ) → branches ≤ 65 → least ≤ branches → IsFound w unmet set rest least b
      → IsFound w unmet set (cleared rest) least b
  found_before branches few more (inl a) = absurd (omega (arith, a.2, few, more))
  found_before branches few more (inr a) = inr a

  -- all were looked at, or one leaves at most one branch
  pub found_all : rest ≡ 0 → IsFound w unmet set rest least b → IsBranchOf w unmet set b
  found_all e (inl a) = inl (a.0, a.1, λ i l h. a.3 i l h (ap (λ n. bit_at n i) e ∙ bit_at-zero i))
  found_all e (inr a) = inr a

  pub found_one : least ≤ 1 → IsFound w unmet set rest least b → IsBranchOf w unmet set b
  found_one l (inl a) = absurd (omega (arith, a.2, l))
  found_one l (inr a) = inr a

-- ======== What stays.

-- of the items of x but for the rest, each is as it has to be
abbrev pub Stays : BoundedWords → ℕ → ℕ → ℕ → ℕ → ℕ → Type 0
Stays w left set x rest stay = (y : ℕ) → y < 64 → bit_at stay y ≡ 1 → (bit_at left y ≡ 1)
    × (bit_at (slice_index w.apart x) y ≡ 0)
    × ((i : ℕ) → i < 64 → bit_at (slice_index w.many x) i ≡ 1 → bit_at rest i ≡ 0
    → bit_at (slice_index w.holders i) y ≡ 1 → times_in w set i < slice_index w.high i)

abbrev pub Goes : BoundedWords → ℕ → ℕ → ℕ → ℕ → Type 0
Goes w left set x stay = (y : ℕ) → y < 64 → bit_at left y ≡ 1 → bit_at stay y ≡ 0
    → (bit_at (slice_index w.apart x) y ≡ 1) ⊎ IsFullFor w set x y

module _ (w : BoundedWords) (left set x rest stay : ℕ) (some : 0 < rest) (fits : rest < 2 ^ 64) where
  -- the next item may be held once more
  pub stays_free : times_in w set (trailing_zeros w64 rest) < slice_index w.high (trailing_zeros w64 rest)
      → Stays w left set x rest stay → Stays w left set x (cleared rest) stay
  stays_free free h y l b =
      let at = h y l b in (
        at.0,
        at.1,
        λ i k m gone c. by_bit rest i
            (λ e. subst (λ j. times_in w set j < slice_index w.high j) (sym (only_lowest rest i some fits k e gone))
            free)
            (λ e. at.2 i k m e c),
      )

  module _ (of new : ℕ) (minus : IsMinus stay of new) (is : of ≡ slice_index w.holders (trailing_zeros w64 rest)) where
    -- it is full
    pub stays_full : Stays w left set x rest stay
        → Stays w left set x (cleared rest) new
    stays_full h y l b =
        let two = in_both stay of new y minus l b in
        let at = h y l two.0 in (
          at.0,
          at.1,
          λ i k m gone c. by_bit rest i
              (λ e.
              let same : slice_index w.holders i ≡ of =
              ap (slice_index w.holders) (only_lowest rest i some fits k e gone) ∙ sym is in
              absurd (omega (arith, two.1, c, ap (λ n. bit_at n y) same)))
              (λ e. at.2 i k m e c),
        )

    pub goes_full : slice_index w.high (trailing_zeros w64 rest) ≤ times_in w set (trailing_zeros w64 rest)
        → ((i : ℕ) → bit_at rest i ≡ 1 → bit_at (slice_index w.many x) i ≡ 1)
        → Goes w left set x stay → Goes w left set x new
    goes_full full known h y l b gone =
        let t = bit_at-trailing_zeros w64 rest some fits in
        by_bit stay y
        (λ e. inr (
          trailing_zeros w64 rest,
          t.0,
          known _ t.1,
          ap (λ n. bit_at n y) (sym is)
              ∙ in_other stay of new y minus l e gone,
          full,
        ))
        (λ e. h y l b e)
