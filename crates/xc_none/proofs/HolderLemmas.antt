-- The lists of the options that hold each item.
use Rattle.std.proofs.Common.{ℕ, zero, suc, ◌≡◌, ◌<◌, ◌≤◌, ◌+◌, ◌-◌, Bool, true, List, [], ◌∷◌, ◌++◌}
use Rattle.std.proofs.Common.{length}
use Rattle.std.proofs.Common.{refl, sym, ap, ◌∙◌, arith, subst, Option, Some, inl, inr, ◌⊎◌, ⊎_elim, get_or}
use Rattle.std.proofs.Common.{eqb, eqb-true, eq-eqb}
use Rattle.std.proofs.Math.ListN.{set}
use Rattle.std.specs.Prelude.{slice_get, is_some, Contains, Vec, unwrap_or}
use Rattle.std.specs.declared.alloc.Global.{Global}
use Rattle.std.proofs.lemmas.Bool.{cases_eq, cases_lt, cases_order, false≢true}
use Rattle.std.proofs.lemmas.List.Elements.{All-push, Contains-append_left, Contains-push}
use Rattle.std.proofs.lemmas.Option.{get_or_from_slice_get, slice_get_within}
use Rattle.xc_input.specs.declared.problem.Use.{Use}
use Rattle.xc_input.specs.Problem.{Puzzle, IsOption, uses_of, colour_in, numbered_get}
use Rattle.xc_text.proofs.ListLemmas.{by_bool, in-contains, slice_get-in}
use Rattle.xc_none.specs.inner.Holders.{IsHolder, AreOptionsOf, AreHoldersUpTo, AreRising, IsNextHolder}

-- whether uses hold item i
abbrev pub hold : List Use → ℕ → Bool
hold us i = is_some (colour_in us i)

-- the lists have the options before option o, and it itself for each item of these of its uses
pub record AreListedWith (p : Puzzle) (o : ℕ) (us : List Use) (lists : List (Vec ℕ Global)) : Type 0 where
  pub before : (i : ℕ) (l : Vec ℕ Global) → 1 ≤ i → slice_get lists (i - 1) ≡ Some l
      → AreHoldersUpTo p i (o - 1) l.items
  pub itself : (i : ℕ) (l : Vec ℕ Global) → 1 ≤ i → slice_get lists (i - 1) ≡ Some l → hold us i ≡ true
      → Contains l.items o

get_here : {X : Type 0} (xs : List X) (k : ℕ) (v w : X) → slice_get xs k ≡ Some w → slice_get (set xs k v) k ≡ Some v
get_here [] k v w e = cc
get_here (x ∷ xs) zero v w e = refl
get_here (x ∷ xs) (suc k) v w e = get_here xs k v w e

get_there : {X : Type 0} (xs : List X) (k i : ℕ) (v : X) → (k ≡ i → ⊥) → slice_get (set xs k v) i ≡ slice_get xs i
get_there [] k i v h = refl
get_there (x ∷ xs) zero zero v h = absurd (h refl)
get_there (x ∷ xs) zero (suc i) v h = refl
get_there (x ∷ xs) (suc k) zero v h = refl
get_there (x ∷ xs) (suc k) (suc i) v h = get_there xs k i v (λ e. h (ap suc e))

-- an item that is held once there is one use more was held before, or is that of the new use
hold-push : (us : List Use) (u : Use) (i : ℕ) → hold (us ++ u ∷ []) i ≡ true → (hold us i ≡ true) ⊎ (u.item ≡ i)
hold-push [] u i e = by_bool (eqb u.item i)
    (λ t. inr (eqb-true u.item i t))
    (λ n. absurd (false≢true (rw n at e)))
hold-push (v ∷ us) u i e = by_bool (eqb v.item i)
    (λ t. inl (rw t refl))
    (λ n. rw n (hold-push us u i (rw n at e)))

-- a use is of an item that is held
hold-at : (us : List Use) (k : ℕ) (d : Use) → k < length us → hold us (get_or us k d).item ≡ true
hold-at [] k d h = absurd (omega (arith, h))
hold-at (v ∷ us) zero d h = let t : eqb v.item v.item ≡ true = eq-eqb v.item v.item refl in rw t refl
hold-at (v ∷ us) (suc k) d h = by_bool (eqb v.item (get_or us k d).item)
    (λ t. rw t refl)
    (λ n. rw n (hold-at us k d (omega (arith, h))))

pub with_more : (p : Puzzle) (o k : ℕ) (us : List Use) (u : Use) (lists : List (Vec ℕ Global)) (l m : Vec ℕ Global)
    → IsHolder p u.item o → 1 ≤ u.item → k ≡ u.item - 1 → slice_get lists k ≡ Some l → m.items ≡ l.items ++ o ∷ []
    → AreListedWith p o us lists → AreListedWith p o (us ++ u ∷ []) (set lists k m)
with_more p o k us u lists l m holder number place at more listed = record {
  before = λ i n h e. ⊎_elim
      (λ (q : k ≡ i - 1).
      let item : u.item ≡ i = omega (arith, number, place, h, q) in
      let is : n ≡ m = same m n (sym (subst (λ (j : ℕ). slice_get (set lists k m) j ≡ Some m) q
      (get_here lists k m l at)) ∙ e) in
      let old = listed.before i l h (subst (λ (j : ℕ). slice_get lists j ≡ Some l) q at) in
      subst (λ (os : List ℕ). AreHoldersUpTo p i (o - 1) os) (sym (ap (λ (v : Vec ℕ Global). v.items) is ∙ more))
      (longer i l.items (subst (λ (j : ℕ). IsHolder p j o) item holder) old))
      (λ (q : k ≡ i - 1 → ⊥). listed.before i n h (sym (get_there lists k (i - 1) m q) ∙ e))
      (cases_eq k (i - 1));
  itself = λ i n h e held. ⊎_elim
      (λ (q : k ≡ i - 1).
      let is : n ≡ m = same m n (sym (subst (λ (j : ℕ). slice_get (set lists k m) j ≡ Some m) q
      (get_here lists k m l at)) ∙ e) in
      subst (λ (os : List ℕ). Contains os o) (sym (ap (λ (v : Vec ℕ Global). v.items) is ∙ more))
      (Contains-push l.items o))
      (λ (q : k ≡ i - 1 → ⊥). listed.itself i n h (sym (get_there lists k (i - 1) m q) ∙ e)
      (⊎_elim (λ (t : hold us i ≡ true). t)
      (λ (t : u.item ≡ i). absurd (q (omega (arith, number, place, h, t)))) (hold-push us u i held)))
      (cases_eq k (i - 1));
}
  where
    same : (a b : Vec ℕ Global) → Some a ≡ Some b → b ≡ a
    same a b e = cc

    longer : (i : ℕ) (os : List ℕ) → IsHolder p i o → AreHoldersUpTo p i (o - 1) os
        → AreHoldersUpTo p i (o - 1) (os ++ o ∷ [])
    longer i os h old = record {
      sound = All-push (IsHolder p i) os o old.sound h;
      whole = λ x k l. Contains-append_left os (o ∷ []) x (old.whole x k l);
    }

-- a use of an option of a problem is of an item that it holds
pub holder_at : (p : Puzzle) (o k : ℕ) (us : List Use) (d : Use) → IsOption p o → numbered_get p.options o ≡ Some us
    → k < length us → IsHolder p (get_or us k d).item o
holder_at p o k us d known at h =
    let uses : uses_of p o ≡ us = ap (λ (x : Option (List Use)). unwrap_or x []) at in
    (known, subst (λ (vs : List Use). hold vs (get_or us k d).item ≡ true) (sym uses) (hold-at us k d h))

-- one option more in rising order
pub rising_more : (xs : List ℕ) (k : ℕ) → 1 ≤ k → ((i j : ℕ) → i < j → j < k → get_or xs i 0 < get_or xs j 0)
    → get_or xs (k - 1) 0 < get_or xs k 0 → (i j : ℕ) → i < j → j < k + 1 → get_or xs i 0 < get_or xs j 0
rising_more xs k some before last i j l m = ⊎_elim
    (λ (q : j < k). before i j l q)
    (λ (q : k ≤ j).
    let here : k ≡ j = omega arith in
    subst (λ (n : ℕ). get_or xs i 0 < get_or xs n 0) here (⊎_elim
    (λ (r : i < k - 1). let n = before i (k - 1) r (omega arith) in omega (arith, n, last))
    (λ (r : k - 1 ≤ i).
    let at : k - 1 ≡ i = omega arith in
    subst (λ (n : ℕ). get_or xs n 0 < get_or xs k 0) at last)
    (cases_lt i (k - 1))))
    (cases_lt j k)

-- the row of a holder
row_of : (p : Puzzle) (i : ℕ) (os : List ℕ) (x : ℕ) → AreOptionsOf p i os → IsHolder p i x
    → (m : ℕ) × (m < length os) × (get_or os m 0 ≡ x)
row_of p i os x holders h =
    let found = slice_get-in os x (in-contains os x (holders.whole x h h.0.1)) in
    (found.0, slice_get_within os found.0 x found.1, get_or_from_slice_get os found.0 x 0 found.1)

-- between two rows there is none
pub row_next : (p : Puzzle) (i : ℕ) (os : List ℕ) (k : ℕ) → AreOptionsOf p i os → AreRising os → 1 ≤ k → k < length os
    → IsNextHolder p i (get_or os (k - 1) 0) (get_or os k 0)
row_next p i os k holders rising some within = λ x h l n.
    let row = row_of p i os x holders h in
    ⊎_elim
    (λ (q : row.0 ≡ k). sym row.2 ∙ ap (λ (m : ℕ). get_or os m 0) q)
    (⊎_elim
    (λ (q : row.0 < k). ⊎_elim
    (λ (r : row.0 ≡ k - 1).
    let same : get_or os row.0 0 ≡ get_or os (k - 1) 0 = ap (λ (m : ℕ). get_or os m 0) r in
    absurd (omega (arith, same, row.2, l)))
    (λ (r : row.0 ≡ k - 1 → ⊥).
    let below : row.0 < k - 1 = omega (arith, q, r) in
    let less = rising row.0 (k - 1) below (omega (arith, within)) in
    absurd (omega (arith, less, row.2, l)))
    (cases_eq row.0 (k - 1)))
    (λ (q : k < row.0). let less = rising k row.0 q row.1 in absurd (omega (arith, less, row.2, n))))
    (cases_order row.0 k)

-- behind the last row there is none
pub last_row : (p : Puzzle) (i : ℕ) (os : List ℕ) (k : ℕ) → AreOptionsOf p i os → AreRising os → length os ≡ k + 1
    → (x : ℕ) → IsHolder p i x → x ≤ get_or os k 0
last_row p i os k holders rising end = λ x h.
    let row = row_of p i os x holders h in
    ⊎_elim
    (λ (q : row.0 ≡ k).
    let same : get_or os row.0 0 ≡ get_or os k 0 = ap (λ (m : ℕ). get_or os m 0) q in
    omega (arith, same, row.2))
    (λ (q : row.0 ≡ k → ⊥).
    let below : row.0 < k = omega (arith, q, row.1, end) in
    let less = rising row.0 k below (omega (arith, end)) in
    omega (arith, less, row.2))
    (cases_eq row.0 k)
