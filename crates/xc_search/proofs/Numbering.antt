-- Numbers by their places in a list, and sums over elements in the order of such places.
use Rattle.std.proofs.Common.{ℕ, zero, suc, ◌≡◌, ◌≢◌, ◌<◌, ◌≤◌, ◌+◌, List, [], ◌∷◌, true, false, not, refl, arith}
use Rattle.std.proofs.Common.{filter, inl, inr, eqb, eqb-true, eq-eqb, ne_eqb, cond, sym, ap, ◌∙◌, Some}
use Rattle.std.specs.Prelude.{slice_get, sum_by}
use Rattle.std.specs.List.{range_with_len}
use Rattle.std.proofs.lemmas.Bool.{eqb-false}
use Rattle.std.proofs.lemmas.List.Sums.{sum_by-cons}
use Rattle.xc_text.proofs.ListLemmas.{IsIn, by_bool, EachTwo, each_from, each_in, in-filter, filter-in, in-slice_get}
use Rattle.xc_text.proofs.ListLemmas.{keep_all}
use Rattle.xc_search.proofs.Matched.{EachTwo-filter}

-- no two are the same
abbrev pub AreDistinct : List ℕ → Type 0
AreDistinct xs = EachTwo (λ x y. x ≢ y) xs

-- where k stands first
abbrev pub bit_of : List ℕ → ℕ → ℕ
bit_of [] k = 0
bit_of (o ∷ os) k = cond (eqb o k) 0 (suc (bit_of os k))

pub stands_at : (os : List ℕ) (x k : ℕ) → slice_get os x ≡ Some k → slice_get os (bit_of os k) ≡ Some k
stands_at [] x k e = cc
stands_at (o ∷ os) zero k e = let here : o ≡ k = cc in let same = eq-eqb o k here in rw same e
stands_at (o ∷ os) (suc x) k e = by_bool (eqb o k) (λ h. rw h (ap (λ z. Some z) (eqb-true o k h)))
    (λ h. rw h (stands_at os x k e))

-- and where it stands once
pub bit_at_place : (os : List ℕ) (x k : ℕ) → AreDistinct os → slice_get os x ≡ Some k → bit_of os k ≡ x
bit_at_place [] x k d e = cc
bit_at_place (o ∷ os) zero k d e = let here : o ≡ k = cc in let same = eq-eqb o k here in rw same refl
bit_at_place (o ∷ os) (suc x) k d e =
    let other = ne_eqb o k (each_in _ os k d.0 (in-slice_get os x k e)) in
    rw other (ap suc (bit_at_place os x k d.1 e))

-- ---- ranges

pub range-in : (a n x : ℕ) → a ≤ x → x < a + n → IsIn (range_with_len a n) x
range-in a zero x l h = absurd (omega (arith, l, h))
range-in a (suc n) x l h = by_bool (eqb a x) (λ e. inl (eqb-true a x e))
    (λ e. inr (range-in (a + 1) n x (next e) (omega (arith, h))))
  where
    next : eqb a x ≡ false → a + 1 ≤ x
    next e = omega (arith, l, eqb-false a x e)

in-range : (a n x : ℕ) → IsIn (range_with_len a n) x → a ≤ x
in-range a zero x h = absurd h
in-range a (suc n) x (inl q) = omega (arith, q)
in-range a (suc n) x (inr q) = omega (arith, in-range (a + 1) n x q)

pub range_distinct : (a n : ℕ) → AreDistinct (range_with_len a n)
range_distinct a zero = tt
range_distinct a (suc n) =
    (each_from _ _ (λ y h q. absurd (omega (arith, in-range (a + 1) n y h, q))), range_distinct (a + 1) n)

-- ---- sums

one_out : (g : ℕ → ℕ) (v : ℕ) (ys : List ℕ) → AreDistinct ys → IsIn ys v
    → sum_by g ys ≡ g v + sum_by g (filter (λ y. not (eqb y v)) ys)
one_out g v [] d h = absurd h
one_out g v (y ∷ ys) d (inl q) =
    let here = eq-eqb y v q in
    let rest : filter (λ z. not (eqb z v)) ys ≡ ys = keep_all _ ys
    (each_from _ ys (λ z k. ap not (ne_eqb z v (λ e. each_in _ ys z d.0 k (q ∙ sym e))))) in
    let sum = sum_by-cons g y ys in
    let value = ap g q in
    rw (here, rest) (omega (arith, sum, value))
one_out g v (y ∷ ys) d (inr q) =
    let other = ne_eqb y v (each_in _ ys v d.0 q) in
    let rest = one_out g v ys d.1 q in
    rw other (omega (arith, sum_by-cons g y ys, sum_by-cons g y (filter (λ y. not (eqb y v)) ys), rest))

-- a sum over elements, each with a number of its own, is one over these numbers
pub sum_renumbered : {X : Type 0} (f : X → ℕ) (g : ℕ → ℕ) (bit : X → ℕ) (xs : List X) (ys : List ℕ)
    → EachTwo (λ a b. bit a ≢ bit b) xs → AreDistinct ys
    → ((x : X) → IsIn xs x → IsIn ys (bit x) × (f x ≡ g (bit x)))
    → ((y : ℕ) → IsIn ys y → (x : X) × IsIn xs x × (bit x ≡ y)) → sum_by f xs ≡ sum_by g ys
sum_renumbered f g bit [] [] a d to from = refl
sum_renumbered f g bit [] (y ∷ ys) a d to from = absurd (from y (inl refl)).1
sum_renumbered f g bit (x ∷ xs) ys a d to from =
    let one = to x (inl refl) in
    let rest = sum_renumbered f g bit xs (filter (λ y. not (eqb y (bit x))) ys) a.1 (EachTwo-filter _ _ ys d)
    (λ z h.
    let t = to z (inr h) in
    (filter-in _ ys (bit z) t.0 (ap not (ne_eqb _ _ (λ e. each_in _ xs z a.0 h (sym e)))), t.1))
    (λ y h.
    let i = in-filter (λ y. not (eqb y (bit x))) ys y h in
    let m = from y i.0 in
    elim m.1 [
      | inl q ↦ absurd (apart (ap bit q ∙ m.2) i.1)
      | inr q ↦ (m.0, q, m.2)
    ]) in
    omega (arith, sum_by-cons f x xs, one.1, one_out g (bit x) ys d one.0, rest)
  where
    apart : {v y : ℕ} → v ≡ y → not (eqb y v) ≡ true → ⊥
    apart {v} {y} q e = let same = eq-eqb y v (sym q) in cc
