-- The holders are four small numbers and otherwise 0, so the members of each are found by cases of the bit:
-- `first_holders` and `first_alone` are the table's first rows, `past` says that a small number has no bit from the
-- fourth on, and `other` that the further rows are empty. `own` goes through all pairs of an item and an option.
use Rattle.std.proofs.Common.{ℕ, zero, suc, ◌≡◌, List, arith, sym, ap, ◌∙◌, subst, refl, ◌<◌, set}
use Rattle.std.proofs.Common.{get_or-set_other}
use Rattle.std.specs.Prelude.{replicate, slice_index}
use Rattle.std.specs.Int.{bit_at}
use Rattle.std.proofs.lemmas.Nat.Bits.{bit_at-zero, bit_at_above}
use Rattle.std.proofs.lemmas.List.{get_or-replicate}
use Rattle.xc_words.specs.Words.{HasOwn}
use Rattle.xc_words.specs.declared.words.Words.{Words}
use Rattle.library_tests.proofs.words.two_covers.Goals as goal

abbrev none : List ℕ
none = replicate 64 0

abbrev holders : List ℕ
holders = set (set (set none 0 5) 1 9) 2 10

abbrev alone : List ℕ
alone = set (set (set (set none 0 3) 1 4) 2 1) 3 6

-- no other option holds any of the three items
past : (m x : ℕ) → m < 16 → bit_at m (suc (suc (suc (suc x)))) ≡ 0
past m x few = bit_at_above m 4 (suc (suc (suc (suc x)))) few (omega arith)

other : (i : ℕ) → 2 < i → i < 64 → slice_index holders i ≡ 0
other i more within =
    get_or-set_other (set (set none 0 5) 1 9) 2 i 10 0 (λ e. omega (arith, e, more))
    ∙ get_or-set_other (set none 0 5) 1 i 9 0 (λ e. omega (arith, e, more))
    ∙ get_or-set_other none 0 i 5 0 (λ e. omega (arith, e, more)) ∙ get_or-replicate 64 i 0 0 within

first_holders : (slice_index holders 0 ≡ 5) × (slice_index holders 1 ≡ 9) × (slice_index holders 2 ≡ 10)
first_holders = (refl, refl, refl)

first_alone : (slice_index alone 0 ≡ 3) × (slice_index alone 1 ≡ 4) × (slice_index alone 2 ≡ 1)
    × (slice_index alone 3 ≡ 6)
first_alone = (refl, refl, refl, refl)

own : (i x : ℕ) → i < 64 → bit_at (slice_index holders i) x ≡ 1 → bit_at (slice_index alone x) i ≡ 1
own zero zero l e = ap (λ m. bit_at m 0) first_alone.0
own zero (suc zero) l e = absurd (omega (arith, e, first_holders.0))
own zero (suc (suc zero)) l e = ap (λ m. bit_at m 0) first_alone.2
own zero (suc (suc (suc zero))) l e = absurd (omega (arith, e, first_holders.0))
own zero (suc (suc (suc (suc x)))) l e =
    absurd (omega (arith, e, past (slice_index holders 0) x (omega (arith, first_holders.0))))
own (suc zero) zero l e = ap (λ m. bit_at m 1) first_alone.0
own (suc zero) (suc zero) l e = absurd (omega (arith, e, first_holders.1))
own (suc zero) (suc (suc zero)) l e = absurd (omega (arith, e, first_holders.1))
own (suc zero) (suc (suc (suc zero))) l e = ap (λ m. bit_at m 1) first_alone.3
own (suc zero) (suc (suc (suc (suc x)))) l e =
    absurd (omega (arith, e, past (slice_index holders 1) x (omega (arith, first_holders.1))))
own (suc (suc zero)) zero l e = absurd (omega (arith, e, first_holders.2))
own (suc (suc zero)) (suc zero) l e = ap (λ m. bit_at m 2) first_alone.1
own (suc (suc zero)) (suc (suc zero)) l e = absurd (omega (arith, e, first_holders.2))
own (suc (suc zero)) (suc (suc (suc zero))) l e = ap (λ m. bit_at m 2) first_alone.3
own (suc (suc zero)) (suc (suc (suc (suc x)))) l e =
    absurd (omega (arith, e, past (slice_index holders 2) x (omega (arith, first_holders.2))))
own (suc (suc (suc i))) x l e =
    absurd (omega (arith, e, ap (λ m. bit_at m x) (other (suc (suc (suc i))) (omega arith) l), bit_at-zero x))

pub returns : goal.returns
returns c = λ left items.
    let made : HasOwn (set (set (set c.new-words.result.holders 0 5) 1 9) 2 10)
    (set (set (set (set c.new-words.result.alone 0 3) 1 4) 2 1) 3 6) left items =
    subst (λ (w : Words). HasOwn (set (set (set w.holders 0 5) 1 9) 2 10)
    (set (set (set (set w.alone 0 3) 1 4) 2 1) 3 6) left items) (sym c.new-words.ensures)
    (λ i x l _ _ _ e. own i x l e) in
    made
