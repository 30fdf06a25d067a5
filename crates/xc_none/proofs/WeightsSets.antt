-- Lemmas on lists and sets of numbers, and on sums over them.
use Rattle.std.proofs.Common.{ℕ, zero, suc, ◌≡◌, ◌≢◌, ◌≤◌, ◌+◌, ◌*◌, Bool, true, false, cond, not, List, [], ◌∷◌}
use Rattle.std.proofs.Common.{filter, refl, sym, ap, ◌∙◌, arith, subst, inl, inr, eqb, eqb-true, eq-eqb, Some, None}
use Rattle.std.proofs.Common.{Option}
use Rattle.std.specs.Prelude.{◌⊎◌, sum_by, count_by, Contains, AllPairs}
use Rattle.std.proofs.lemmas.List.Sums.{sum_by-cons}
use Rattle.std.proofs.lemmas.Bool.Decides.{nat_tests}
use Rattle.std.specs.List.{AllByRecursion}
use Rattle.std.proofs.lemmas.List.Elements.{recursion_from_All}

-- x is an element of the list
abbrev pub IsIn : {X : Type 0} → List X → X → Type 0
IsIn [] x = ⊥
IsIn (y ∷ ys) x = (y ≡ x) ⊎ IsIn ys x

pub by_bool : {P : Type 0} (b : Bool) → (b ≡ true → P) → (b ≡ false → P) → P
by_bool true f g = f refl
by_bool false f g = g refl

pub by_option : {A P : Type 0} (o : Option A) → (o ≡ None → P) → ((a : A) → o ≡ Some a → P) → P
by_option None f g = f refl
by_option (Some a) f g = g a refl

pub in-filter : {X : Type 0} (p : X → Bool) (xs : List X) (x : X) → IsIn (filter p xs) x → IsIn xs x × (p x ≡ true)
in-filter p [] x h = absurd h
in-filter p (y ∷ ys) x h = grind (arith, nat_tests, in-filter p ys x)

pub each-filter : {X : Type 0} (P : X → Type 0) (q : X → Bool) (xs : List X) → AllByRecursion P xs
    → AllByRecursion P (filter q xs)
each-filter P q [] a = a
each-filter P q (x ∷ xs) a = grind (arith, nat_tests, each-filter P q xs a.1)

pub each_in : {X : Type 0} (P : X → Type 0) (xs : List X) (x : X) → AllByRecursion P xs → IsIn xs x → P x
each_in P [] x a h = absurd h
each_in P (y ∷ ys) x a (inl q) = subst P q a.0
each_in P (y ∷ ys) x a (inr q) = each_in P ys x a.1 q

pub each_from : {X : Type 0} (P : X → Type 0) (xs : List X) → ((x : X) → IsIn xs x → P x) → AllByRecursion P xs
each_from P [] h = tt
each_from P (y ∷ ys) h = (h y (inl refl), each_from P ys (λ x k. h x (inr k)))

pub contains-in : {X : Type 0} (xs : List X) (x : X) → IsIn xs x → Contains xs x
contains-in [] x h = absurd h
contains-in (y ∷ ys) x (inl q) = (zero, omega arith, q)
contains-in (y ∷ ys) x (inr q) = let later = contains-in ys x q in (suc later.0, omega (arith, later.1), later.2)

-- `AllPairs` by recursion
abbrev pub EachTwo : {X : Type 0} → (X → X → Type 0) → List X → Type 0
EachTwo R [] = Unit {0}
EachTwo R (x ∷ xs) = AllByRecursion (R x) xs × EachTwo R xs

pub each_two_from_AllPairs : {X : Type 0} (R : X → X → Type 0) (xs : List X) → AllPairs R xs → EachTwo R xs
each_two_from_AllPairs R [] a = tt
each_two_from_AllPairs R (x ∷ xs) a = (
  recursion_from_All (R x) xs (λ k d l. a 0 (suc k) d (omega arith) (omega (arith, l))),
  each_two_from_AllPairs R xs (λ i j d l m. a (suc i) (suc j) d (omega (arith, l)) (omega (arith, m))),
)

pub keep_all : {X : Type 0} (p : X → Bool) (xs : List X) → AllByRecursion (λ x. p x ≡ true) xs → filter p xs ≡ xs
keep_all p [] a = refl
keep_all p (x ∷ xs) a = rw a.0 (ap (λ ys. x ∷ ys) (keep_all p xs a.1))

abbrev pub without : ℕ → List ℕ → List ℕ
without a ts = filter (λ t. not (eqb t a)) ts

-- each two are different
abbrev pub DifferInTwos : List ℕ → Type 0
DifferInTwos ts = EachTwo (λ x y. x ≢ y) ts

pub less_one : (f : ℕ → ℕ) (a : ℕ) (ts : List ℕ) → DifferInTwos ts → sum_by f ts ≤ f a + sum_by f (without a ts)
less_one f a [] d = omega arith
less_one f a (t ∷ ts) d = by_bool (eqb t a)
    (λ e.
    let is : t ≡ a = eqb-true t a e in
    let rest : without a ts ≡ ts = keep_all (λ t. not (eqb t a)) ts
    (each_from _ ts (λ y h. by_bool (eqb y a)
    (λ g. absurd (each_in (λ y. t ≢ y) ts y d.0 h (is ∙ sym (eqb-true y a g)))) (λ g. rw g refl))) in
    let same : without a (t ∷ ts) ≡ ts = rw e rest in
    let one : f t ≡ f a = ap f is in
    rw same (omega (arith, sum_by-cons f t ts, one)))
    (λ e.
    let more : without a (t ∷ ts) ≡ t ∷ without a ts = rw e refl in
    rw more (omega (arith, sum_by-cons f t ts, sum_by-cons f t (without a ts), less_one f a ts d.1)))

pub differ_without : (a : ℕ) (ts : List ℕ) → DifferInTwos ts → DifferInTwos (without a ts)
differ_without a [] d = tt
differ_without a (t ∷ ts) d = by_bool (not (eqb t a))
    (λ e. rw e (each-filter (λ y. t ≢ y) (λ t. not (eqb t a)) ts d.0, differ_without a ts d.1))
    (λ e. rw e (differ_without a ts d.1))

pub sum_within : (f : ℕ → ℕ) (s ts : List ℕ) → DifferInTwos ts → ((t : ℕ) → IsIn ts t → IsIn s t)
    → sum_by f ts ≤ sum_by f s
sum_within f [] [] d h = omega arith
sum_within f [] (t ∷ ts) d h = absurd (h t (inl refl))
sum_within f (a ∷ s) ts d h =
    let rest = sum_within f s (without a ts) (differ_without a ts d) (λ t k.
    let at = in-filter (λ t. not (eqb t a)) ts t k in
    elim (h t at.0) [
      | inl e ↦ let same : eqb t a ≡ true = eq-eqb t a (sym e) in let no : not (eqb t a) ≡ true = at.1 in cc
      | inr j ↦ j
    ]) in
    omega (arith, rest, less_one f a ts d, sum_by-cons f a s)

pub sum_plus : (a b g : ℕ → ℕ) (is : List ℕ) → ((i : ℕ) → g i ≡ a i + b i) → sum_by g is ≡ sum_by a is + sum_by b is
sum_plus a b g [] h = refl
sum_plus a b g (i ∷ is) h =
    omega (arith, h i, sum_plus a b g is h, sum_by-cons g i is, sum_by-cons a i is, sum_by-cons b i is)

pub sum_le : (a b : ℕ → ℕ) (is : List ℕ) → ((i : ℕ) → IsIn is i → a i ≤ b i) → sum_by a is ≤ sum_by b is
sum_le a b [] h = omega arith
sum_le a b (i ∷ is) h =
    omega (arith, h i (inl refl), sum_le a b is (λ j k. h j (inr k)), sum_by-cons a i is, sum_by-cons b i is)

pub sum_none : (g : ℕ → ℕ) (is : List ℕ) → ((i : ℕ) → g i ≡ 0) → sum_by g is ≡ 0
sum_none g [] h = refl
sum_none g (i ∷ is) h = omega (arith, h i, sum_none g is h, sum_by-cons g i is)

-- the weights of the items that an option holds, of these items
abbrev pub part : (ℕ → ℕ → Bool) → (ℕ → ℕ) → List ℕ → ℕ → ℕ
part h w is o = sum_by (λ i. cond (h o i) (w i) 0) is

once_more : (w n : ℕ) (b : Bool) → w * (cond b 1 0 + n) ≡ cond b w 0 + w * n
once_more w n true = omega arith
once_more w n false = omega arith

-- by options, or by items
pub swap : (h : ℕ → ℕ → Bool) (w : ℕ → ℕ) (is s : List ℕ)
    → sum_by (part h w is) s ≡ sum_by (λ i. w i * count_by (λ o. h o i) s) is
swap h w is [] = sym (sum_none (λ i. w i * count_by (λ o. h o i) []) is (λ i. omega arith))
swap h w is (o ∷ s) =
    let more = sum_plus (λ i. cond (h o i) (w i) 0) (λ i. w i * count_by (λ o. h o i) s)
    (λ i. w i * count_by (λ o. h o i) (o ∷ s)) is
    (λ i. ap (λ n. w i * n) (sum_by-cons (λ x. cond (h x i) 1 0) o s)
    ∙ once_more (w i) (count_by (λ o. h o i) s) (h o i)) in
    omega (arith, more, swap h w is s, sum_by-cons (part h w is) o s)

pub times_more : (w a b : ℕ) → a ≤ b → w * a ≤ w * b
times_more zero a b h = omega arith
times_more (suc w) a b h = omega (arith, h, times_more w a b h)
