-- Orders of the options, and how many of them hold an item.
use Rattle.std.proofs.Common.{ℕ, zero, suc, ◌≡◌, ◌≢◌, ◌<◌, ◌+◌, ◌-◌, false, eqb, cond, List, [], ◌∷◌}
use Rattle.std.proofs.Common.{length, drop, get_or, set, None, refl, ap, ◌∙◌, arith, subst}
use Rattle.std.proofs.Common.{eqb-true, eq-eqb, ne_eqb, drop-cons}
use Rattle.std.specs.Prelude.{is_some}
use Rattle.xc_input.specs.declared.problem.Use.{Use}
use Rattle.xc_input.specs.Problem.{Puzzle, colour_in, uses_of}
use Rattle.xc_text.proofs.ListLemmas.{by_bool, EachTwo}
use Rattle.xc_count.specs.inner.ByOption.{AtMost}
use Rattle.xc_count.proofs.Forgetting.{holders_cons}
use Rattle.xc_count.proofs.HolderLemmas.{none_again}

-- 1 if these uses hold an item
abbrev pub held_by : List Use → ℕ → ℕ
held_by us i = cond (is_some (colour_in us i)) 1 0

set_here : (xs : List ℕ) (k v : ℕ) → k < length xs → get_or (set xs k v) k 0 ≡ v
set_here [] k v h = absurd (omega (arith, h))
set_here (x ∷ xs) zero v h = refl
set_here (x ∷ xs) (suc k) v h = set_here xs k v (omega (arith, h))

set_there : (xs : List ℕ) (k i v : ℕ) → k ≢ i → get_or (set xs k v) i 0 ≡ get_or xs i 0
set_there [] k i v h = refl
set_there (x ∷ xs) zero zero v h = absurd (h refl)
set_there (x ∷ xs) zero (suc i) v h = refl
set_there (x ∷ xs) (suc k) zero v h = refl
set_there (x ∷ xs) (suc k) (suc i) v h = set_there xs k i v (λ e. h (ap suc e))

held_cons : (u : Use) (us : List Use) (i : ℕ) → u.item ≢ i → held_by (u ∷ us) i ≡ held_by us i
held_cons u us i h = let e : eqb u.item i ≡ false = ne_eqb _ _ h in rw e refl

-- and one less: each item that these uses hold has one less once its use is behind
pub less_left : (us : List Use) (k : ℕ) (d : Use) (left : List ℕ) (old : ℕ → ℕ) (v : ℕ)
    → EachTwo (λ u v. u.item ≢ v.item) us → k < length us → held_by us (get_or us k d).item ≡ 1
    → (get_or us k d).item < length left → v ≡ get_or left (get_or us k d).item 0 - 1
    → ((i : ℕ) → get_or left i 0 ≡ old i - (held_by us i - held_by (drop k us) i))
    → (i : ℕ) → get_or (set left (get_or us k d).item v) i 0 ≡ old i - (held_by us i - held_by (drop (k + 1) us) i)
less_left us k d left old v two h holds within less so i =
    let u = get_or us k d in
    let next : suc k ≡ k + 1 = omega arith in
    let here : drop k us ≡ u ∷ drop (k + 1) us = drop-cons us k d h ∙ ap (λ n. u ∷ drop n us) next in
    let was : get_or left i 0 ≡ old i - (held_by us i - held_by (u ∷ drop (k + 1) us) i) =
    subst (λ vs. get_or left i 0 ≡ old i - (held_by us i - held_by vs i)) here (so i) in
    by_bool (eqb u.item i)
    (λ e.
    let is = eqb-true _ _ e in
    let new : get_or (set left u.item v) i 0 ≡ v =
    subst (λ j. get_or (set left u.item v) j 0 ≡ v) is (set_here left u.item v within) in
    let fewer : v ≡ get_or left i 0 - 1 = subst (λ j. v ≡ get_or left j 0 - 1) is less in
    let one : held_by (u ∷ drop (k + 1) us) i ≡ 1 = rw e refl in
    let held : held_by us i ≡ 1 = subst (λ j. held_by us j ≡ 1) is holds in
    let none : colour_in (drop (k + 1) us) i ≡ None =
    subst (λ j. colour_in (drop (k + 1) us) j ≡ None) is
    (subst (λ n. colour_in (drop n us) u.item ≡ None) next (none_again us two k d h)) in
    let gone : held_by (drop (k + 1) us) i ≡ 0 = rw none refl in
    omega (arith, was, one, held, gone, fewer, new))
    (λ e.
    let other : u.item ≢ i = λ q. let t = eq-eqb _ _ q in cc (t, e) in
    let new = set_there left u.item i v other in
    omega (arith, was, held_cons u (drop (k + 1) us) i other, new))

-- and once it is behind
pub at_most_less : (p : Puzzle) (o : ℕ) (os left new : List ℕ) → AtMost p (o ∷ os) left
    → ((i : ℕ) → get_or new i 0 ≡ get_or left i 0 - held_by (uses_of p o) i) → AtMost p os new
at_most_less p o os left new a less i = omega (arith, a i, less i, holders_cons p o os i)
