-- How often items are held.
use Rattle.std.proofs.Common.{ℕ, ◌≡◌, ◌≢◌, ◌≤◌, ◌<◌, ◌+◌, ◌-◌, true, false, cond, List, [], ◌∷◌, ◌++◌, refl, sym}
use Rattle.std.proofs.Common.{arith}
use Rattle.std.proofs.Common.{eqb, eqb-true, eq-eqb, length, get_or, subst, take}
use Rattle.std.proofs.lemmas.List.{take_more, get_or-set_same, get_or-set_other}
use Rattle.std.specs.Prelude.{count_by, is_some, nat_le, nat_lt, slice_get, unwrap_or, Option, None, ◌&&◌}
use Rattle.std.proofs.Common.{ap, zero, suc}
use Rattle.std.specs.List.{AllByRecursion}
use Rattle.std.proofs.Math.ListN.{set}
use Rattle.std.proofs.lemmas.List.Sums.{sum_by-cons, sum_by_more}
use Rattle.std.proofs.lemmas.Bool.Decides.{nat_tests}
use Rattle.xc_input.specs.declared.problem.Use.{Use}
use Rattle.xc_input.specs.Problem.{Puzzle, IsValid, colour_in, option_count, uses_of}
use Rattle.xc_check.proofs.ClassLemmas.{option-differs}
use Rattle.xc_text.proofs.ListLemmas.{by_bool, EachTwo}
use Rattle.xc_least.specs.inner.Held.{once_if_held}

-- ---- one number of a list is changed

pub set_more : (h : List ℕ) (j v i : ℕ) → j < length h → v ≤ get_or h j 0 + 1
    → get_or (set h j v) i 0 ≤ get_or h i 0 + cond (eqb j i) 1 0
set_more h j v i within few = by_bool (eqb j i)
    (λ e.
    let is : j ≡ i = eqb-true j i e in
    let here : get_or (set h j v) i 0 ≡ v =
    subst (λ i. get_or (set h j v) i 0 ≡ v) is (get_or-set_same h j v 0 within) in
    let most : v ≤ get_or h i 0 + 1 = subst (λ i. v ≤ get_or h i 0 + 1) is few in
    rw e (omega (arith, here, most)))
    (λ e.
    let other : i ≢ j = λ q. let yes : eqb j i ≡ true = eq-eqb j i (sym q) in cc in
    let there = get_or-set_other h j i v 0 other in
    rw e (omega (arith, there)))

pub set_less : (h : List ℕ) (j v i : ℕ) → j < length h → v ≤ get_or h j 0 - 1
    → get_or (set h j v) i 0 ≤ get_or h i 0 - cond (eqb j i) 1 0
set_less h j v i within few = by_bool (eqb j i)
    (λ e.
    let is : j ≡ i = eqb-true j i e in
    let here : get_or (set h j v) i 0 ≡ v =
    subst (λ i. get_or (set h j v) i 0 ≡ v) is (get_or-set_same h j v 0 within) in
    let most : v ≤ get_or h i 0 - 1 = subst (λ i. v ≤ get_or h i 0 - 1) is few in
    rw e (omega (arith, here, most)))
    (λ e.
    let other : i ≢ j = λ q. let yes : eqb j i ≡ true = eq-eqb j i (sym q) in cc in
    let there = get_or-set_other h j i v 0 other in
    rw e (omega (arith, there)))

-- ---- items of uses

once_push : (us : List Use) (u : Use) (i : ℕ)
    → once_if_held (us ++ u ∷ []) i ≤ once_if_held us i + cond (eqb u.item i) 1 0
once_push [] u i = by_bool (eqb u.item i) (λ e. rw e (omega arith)) (λ e. rw e (omega arith))
once_push (v ∷ us) u i = by_bool (eqb v.item i)
    (λ e. rw e (omega arith))
    (λ e. rw e (once_push us u i))

pub once_more : (us : List Use) (k : ℕ) (z : Use) (i : ℕ) → k < length us
    → once_if_held (take (k + 1) us) i ≤ once_if_held (take k us) i + cond (eqb (get_or us k z).item i) 1 0
once_more us k z i h =
    subst (λ vs. once_if_held vs i ≤ once_if_held (take k us) i + cond (eqb (get_or us k z).item i) 1 0)
    (sym (take_more us k z h)) (once_push (take k us) (get_or us k z) i)

pub count_more : (us : List Use) (k : ℕ) (z : Use) (i : ℕ) → k < length us
    → count_by (λ (u : Use). eqb u.item i) (take (k + 1) us)
    ≡ count_by (λ (u : Use). eqb u.item i) (take k us) + cond (eqb (get_or us k z).item i) 1 0
count_more us k z i h = sum_by_more (λ (u : Use). cond (eqb u.item i) 1 0) us k z h

none_other : (i : ℕ) (us : List Use) (j : ℕ) → j ≡ i → AllByRecursion (λ (v : Use). j ≢ v.item) us
    → count_by (λ (u : Use). eqb u.item i) us ≡ 0
none_other i [] j e a = refl
none_other i (u ∷ us) j e a =
    let no : eqb u.item i ≡ false = by_bool (eqb u.item i)
    (λ q. let same : j ≡ u.item = e' j i u.item e (eqb-true u.item i q) in absurd (a.0 same))
    (λ q. q) in
    let none : ◌≡◌ {A = ℕ} (cond (eqb u.item i) 1 0) 0 = rw no refl in
    omega (arith, sum_by-cons (λ (u : Use). cond (eqb u.item i) 1 0) u us, none, none_other i us j e a.1)
  where
    e' : (j i k : ℕ) → j ≡ i → k ≡ i → j ≡ k
    e' j i k p q = cc

-- where the items of uses are distinct, each is held once
pub count_once : (us : List Use) (i : ℕ) → EachTwo (λ (u v : Use). u.item ≢ v.item) us
    → count_by (λ (u : Use). eqb u.item i) us ≤ once_if_held us i
count_once [] i d = omega arith
count_once (u ∷ us) i d = by_bool (eqb u.item i)
    (λ e.
    let one : ◌≡◌ {A = ℕ} (cond (eqb u.item i) 1 0) 1 = rw e refl in
    let here : once_if_held (u ∷ us) i ≡ 1 = rw e refl in
    omega (
      arith,
      sum_by-cons (λ (u : Use). cond (eqb u.item i) 1 0) u us,
      one,
      here,
      none_other i us u.item (eqb-true u.item i e) d.0,
    ))
    (λ e.
    let none : ◌≡◌ {A = ℕ} (cond (eqb u.item i) 1 0) 0 = rw e refl in
    let same : once_if_held (u ∷ us) i ≡ once_if_held us i = rw e refl in
    omega (arith, sum_by-cons (λ (u : Use). cond (eqb u.item i) 1 0) u us, none, same, count_once us i d.1))

-- the uses of an option hold an item no more than once
pub held_more : (p : Puzzle) → IsValid p → (o i : ℕ) (us : List Use) → us ≡ uses_of p o → (more held : ℕ)
    → more ≤ held + count_by (λ (u : Use). eqb u.item i) us → more ≤ held + once_if_held (uses_of p o) i
held_more p v o i us e more held h =
    let apart = by_bool (nat_lt 0 o && nat_le o (option_count p))
    (λ y. option-differs p v o (grind (arith, nat_tests, y)))
    (λ n. subst (EachTwo (λ (u v : Use). u.item ≢ v.item)) (sym (no_uses p o n)) tt) in
    omega (
      arith,
      h,
      subst (λ vs. count_by (λ (u : Use). eqb u.item i) vs ≤ once_if_held (uses_of p o) i) (sym e)
          (count_once (uses_of p o) i apart),
    )
  where
    past : {X : Type 0} (xs : List X) (k : ℕ) → length xs ≤ k → slice_get xs k ≡ None
    past [] k h = refl
    past (x ∷ xs) zero h = absurd (omega (arith, h))
    past (x ∷ xs) (suc k) h = past xs k (omega (arith, h))

    no_uses : (p : Puzzle) (o : ℕ) → (nat_lt 0 o && nat_le o (option_count p)) ≡ false → uses_of p o ≡ []
    no_uses p zero n = refl
    no_uses p (suc k) n =
        let none = past p.options k (grind (arith, nat_tests, n)) in
        ap (λ (x : Option (List Use)). unwrap_or x []) none

-- a use holds its item
pub use_there : (us : List Use) (k : ℕ) (z : Use) → k < length us → is_some (colour_in us (get_or us k z).item) ≡ true
use_there [] k z h = absurd (omega (arith, h))
use_there (u ∷ us) zero z h = let same : eqb u.item u.item ≡ true = eq-eqb u.item u.item refl in rw same refl
use_there (u ∷ us) (suc k) z h = by_bool (eqb u.item (get_or us k z).item)
    (λ e. rw e refl)
    (λ e. rw e (use_there us k z (omega (arith, h))))
