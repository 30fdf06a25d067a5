-- Elements of a list whose bits are set in a word.
use Rattle.std.proofs.Common.{ℕ, zero, suc, ◌≡◌, ◌≤◌, ◌+◌, ◌-◌, ◌^◌, List, [], ◌∷◌, Bool, true, refl, arith, map}
use Rattle.std.proofs.Common.{filter, inl, inr, eqb, length, ap, ap₂, Some, subst}
use Rattle.std.specs.Prelude.{slice_get}
use Rattle.std.specs.Int.{bit_at}
use Rattle.std.specs.List.{enumerate_from}
use Rattle.std.proofs.lemmas.Nat.Bits.{bit_at_ones, bit_at-zero}
use Rattle.xc_text.proofs.ListLemmas.{IsIn, by_bool, EachTwo, each_from, each_in, in-filter, in-map, in-enumerated}
use Rattle.xc_text.proofs.ListLemmas.{filter-in, map-in}

-- bit i of m is set
abbrev pub has : ℕ → ℕ → Bool
has m i = eqb (bit_at m i) 1

-- the elements whose bits are set, the first being at bit a
abbrev pub picked : {X : Type 0} → ℕ → ℕ → List X → List X
picked a m xs = map (λ ix. ix.1) (filter (λ ix. has m ix.0) (enumerate_from a xs))

-- ---- elements and their places

from_place : {X : Type 0} (a : ℕ) (xs : List X) (i : ℕ) (x : X) → IsIn (enumerate_from a xs) (i, x)
    → (a ≤ i) × (slice_get xs (i - a) ≡ Some x)
from_place a [] i x h = absurd h
from_place a (y ∷ ys) i x (inl q) =
    let one : a ≡ i = ap (λ k. k.0) q in
    let two : y ≡ x = ap (λ k. k.1) q in
    let z : 0 ≡ i - a = omega (arith, one) in
    (omega (arith, one), subst (λ k. slice_get (y ∷ ys) k ≡ Some x) z (ap (λ z. Some z) two))
from_place a (y ∷ ys) i x (inr q) =
    let later = from_place (a + 1) ys i x q in
    let s : suc (i - (a + 1)) ≡ i - a = omega (arith, later.0) in
    (omega (arith, later.0), subst (λ k. slice_get (y ∷ ys) k ≡ Some x) s later.1)

pub stands : {X : Type 0} (xs : List X) (i : ℕ) (x : X) → IsIn (enumerate_from 0 xs) (i, x) → slice_get xs i ≡ Some x
stands xs i x h =
    let z : i - 0 ≡ i = omega arith in subst (λ k. slice_get xs k ≡ Some x) z (from_place 0 xs i x h).1

to_place : {X : Type 0} (a : ℕ) (xs : List X) (k : ℕ) (x : X) → slice_get xs k ≡ Some x
    → IsIn (enumerate_from a xs) (a + k, x)
to_place a [] k x e = cc
to_place {X} a (y ∷ ys) zero x e =
    let same : y ≡ x = cc in
    let s : a ≡ a + 0 = omega arith in
    let pair : ℕ → X → ℕ × X = λ k z. (k, z) in
    inl (ap₂ pair s same)
to_place a (y ∷ ys) (suc k) x e =
    let s : a + 1 + k ≡ a + suc k = omega arith in
    inr (subst (λ j. IsIn (enumerate_from (a + 1) ys) (j, x)) s (to_place (a + 1) ys k x e))

pub at_place : {X : Type 0} (xs : List X) (i : ℕ) (x : X) → slice_get xs i ≡ Some x
    → IsIn (enumerate_from 0 xs) (i, x)
at_place xs i x e = subst (λ k. IsIn (enumerate_from 0 xs) (k, x)) (omega arith) (to_place 0 xs i x e)

-- ---- what is picked

pub picked-in : {X : Type 0} (a m : ℕ) (xs : List X) (i : ℕ) (x : X) → IsIn (enumerate_from a xs) (i, x)
    → has m i ≡ true → IsIn (picked a m xs) x
picked-in a m xs i x h e =
    map-in (λ (ix : ℕ × _). ix.1) (filter (λ ix. has m ix.0) (enumerate_from a xs)) (i, x)
    (filter-in (λ ix. has m ix.0) (enumerate_from a xs) (i, x) h e)

pub in-picked : {X : Type 0} (a m : ℕ) (xs : List X) (x : X) → IsIn (picked a m xs) x → IsIn xs x
in-picked a m xs x h =
    let from = in-map (λ (ix : ℕ × _). ix.1) (filter (λ ix. has m ix.0) (enumerate_from a xs)) x h in
    let at = in-filter (λ ix. has m ix.0) (enumerate_from a xs) from.0 from.1 in
    subst (IsIn xs) from.2 (in-enumerated a xs from.0 at.0)

-- where some of it goes and the rest changes by f, which leaves what stays
pub picked-changed : {X : Type 0} (f : X → X) (p : X → Bool) (a m k : ℕ) (xs : List X)
    → ((i : ℕ) (x : X) → IsIn (enumerate_from a xs) (i, x) → has m i ≡ true → p (f x) ≡ has k i)
    → ((i : ℕ) (x : X) → IsIn (enumerate_from a xs) (i, x) → has k i ≡ true → (has m i ≡ true) × (f x ≡ x))
    → filter p (map f (picked a m xs)) ≡ picked a k xs
picked-changed f p a m k [] g h = refl
picked-changed f p a m k (x ∷ xs) g h =
    let rest = picked-changed f p (a + 1) m k xs (λ i y l. g i y (inr l)) (λ i y l. h i y (inr l)) in
    let one = g a x (inl refl) in
    let two = h a x (inl refl) in
    by_bool (has m a)
    (λ e. by_bool (has k a) (λ d. let o = one e in let t = (two d).1 in grind (arith, rest, e, d, o, t))
    (λ d. let o = one e in grind (arith, rest, e, d, o)))
    (λ e. by_bool (has k a) (λ d. let t = (two d).0 in grind (arith, e, t)) (λ d. grind (arith, rest, e, d)))

pub two_picked : {X : Type 0} (R : X → X → Type 0) (a m : ℕ) (xs : List X) → EachTwo R xs → EachTwo R (picked a m xs)
two_picked R a m [] t = tt
two_picked R a m (x ∷ xs) t =
    let rest = two_picked R (a + 1) m xs t.1 in
    by_bool (has m a)
    (λ e. rw e (each_from (R x) _ (λ y h. each_in (R x) xs y t.0 (in-picked (a + 1) m xs y h)), rest))
    (λ e. rw e rest)

pub none_picked : {X : Type 0} (a : ℕ) (xs : List X) → picked a 0 xs ≡ []
none_picked a [] = refl
none_picked a (x ∷ xs) = let z = bit_at-zero a in let rest = none_picked (a + 1) xs in grind (arith, z, rest)

pub all_picked : {X : Type 0} (a k : ℕ) (xs : List X) → a + length xs ≤ k → picked a (2 ^ k - 1) xs ≡ xs
all_picked a k [] l = refl
all_picked a k (x ∷ xs) l =
    let rest = all_picked (a + 1) k xs (omega (arith, l)) in
    let here = bit_at_ones k a (omega (arith, l)) in
    grind (arith, rest, here)
