-- Counting the elements of a list that pass one of two tests.
use Rattle.std.proofs.Common.{ℕ, ◌≡◌, ◌≢◌, ◌≤◌, ◌+◌, Bool, true, false, List, [], ◌∷◌, refl, sym, ap, ◌∙◌, arith}
use Rattle.std.proofs.Common.{cond, subst, inl, inr, ◌⊎◌, ⊎_elim}
use Rattle.std.specs.Prelude.{count_by, ◌||◌}
use Rattle.std.specs.List.{AllByRecursion, list_any}
use Rattle.std.proofs.lemmas.List.Sums.{sum_by-cons}
use Rattle.std.proofs.lemmas.Bool.{false≢true, or_right}
use Rattle.xc_text.proofs.ListLemmas.{by_bool, EachTwo, each_both, IsIn}

no_more : (a b : Bool) → (a ≡ true → b ≡ true) → cond a 1 0 ≤ cond b 1 0
no_more true true h = omega arith
no_more true false h = absurd (false≢true (h refl))
no_more false true h = omega arith
no_more false false h = omega arith

-- no more pass a stronger test
pub count-le : (P : ℕ → Type 0) (f g : ℕ → Bool) (xs : List ℕ) → ((x : ℕ) → P x → f x ≡ true → g x ≡ true)
    → AllByRecursion P xs → count_by f xs ≤ count_by g xs
count-le P f g [] h a = omega arith
count-le P f g (x ∷ xs) h a =
    let e = sum_by-cons (λ (y : ℕ). cond (f y) 1 0) x xs in
    let k = sum_by-cons (λ (y : ℕ). cond (g y) 1 0) x xs in
    let one = no_more (f x) (g x) (h x a.0) in
    let rest = count-le P f g xs h a.1 in
    omega (arith, e, k, one, rest)

everywhere : (xs : List ℕ) → AllByRecursion (λ (x : ℕ). Unit {0}) xs
everywhere [] = tt
everywhere (x ∷ xs) = (tt, everywhere xs)

-- fewer do where an element passes the weaker one alone
pub count-lt : (f g : ℕ → Bool) (xs : List ℕ) (o : ℕ) → ((x : ℕ) → f x ≡ true → g x ≡ true) → IsIn xs o
    → f o ≡ false → g o ≡ true → count_by f xs + 1 ≤ count_by g xs
count-lt f g [] o h i fails passes = absurd i
count-lt f g (x ∷ xs) o h (inl q) fails passes =
    let count : Bool → ℕ = λ b. cond b 1 0 in
    let e = sum_by-cons (λ (y : ℕ). cond (f y) 1 0) x xs in
    let k = sum_by-cons (λ (y : ℕ). cond (g y) 1 0) x xs in
    let a : count (f x) ≡ 0 = ap count (subst (λ (y : ℕ). f y ≡ false) (sym q) fails) in
    let b : count (g x) ≡ 1 = ap count (subst (λ (y : ℕ). g y ≡ true) (sym q) passes) in
    let rest = count-le (λ y. Unit {0}) f g xs (λ y u. h y) (everywhere xs) in
    omega (arith, e, k, a, b, rest)
count-lt f g (x ∷ xs) o h (inr q) fails passes =
    let e = sum_by-cons (λ (y : ℕ). cond (f y) 1 0) x xs in
    let k = sum_by-cons (λ (y : ℕ). cond (g y) 1 0) x xs in
    let one = no_more (f x) (g x) (h x) in
    let rest = count-lt f g xs o h q fails passes in
    omega (arith, e, k, one, rest)

-- one more does at most where only one element passes the weaker one alone
pub count-le_one_more : (P : ℕ → Type 0) (f g : ℕ → Bool) (xs : List ℕ) (o : ℕ)
    → ((x : ℕ) → P x → f x ≡ true → (x ≡ o) ⊎ (g x ≡ true)) → EachTwo (λ a b. a ≢ b) xs → AllByRecursion P xs
    → count_by f xs ≤ count_by g xs + 1
count-le_one_more P f g [] o h two a = omega arith
count-le_one_more P f g (x ∷ xs) o h two a =
    let count : Bool → ℕ = λ b. cond b 1 0 in
    let e = sum_by-cons (λ (y : ℕ). cond (f y) 1 0) x xs in
    let k = sum_by-cons (λ (y : ℕ). cond (g y) 1 0) x xs in
    let rest : count_by f xs ≤ count_by g xs + 1 = count-le_one_more P f g xs o h two.1 a.1 in
    by_bool (f x)
    (λ yes.
    let u : count (f x) ≡ 1 = ap count yes in
    ⊎_elim (λ (q : x ≡ o).
    let both : AllByRecursion (λ y. P y × (x ≢ y)) xs =
    each_both P (λ y. x ≢ y) (λ y. P y × (x ≢ y)) xs (λ y i n. (i, n)) a.1 two.0 in
    let same : count_by f xs ≤ count_by g xs = count-le (λ y. P y × (x ≢ y)) f g xs
    (λ y w t. ⊎_elim (λ (r : y ≡ o). absurd (w.1 (q ∙ sym r))) (λ (r : g y ≡ true). r) (h y w.0 t)) both in
    omega (arith, e, k, u, same))
    (λ (t : g x ≡ true). let v : count (g x) ≡ 1 = ap count t in omega (arith, e, k, u, v, rest))
    (h x a.0 yes))
    (λ no. let z : count (f x) ≡ 0 = ap count no in omega (arith, e, k, z, rest))

-- none is counted where none passes
pub count-none : (P : ℕ → Type 0) (f : ℕ → Bool) (xs : List ℕ) → ((x : ℕ) → P x → f x ≡ true → ⊥)
    → AllByRecursion P xs
    → count_by f xs ≡ 0
count-none P f [] h a = refl
count-none P f (x ∷ xs) h a =
    let count : Bool → ℕ = λ b. cond b 1 0 in
    let e = sum_by-cons (λ (y : ℕ). cond (f y) 1 0) x xs in
    let rest = count-none P f xs h a.1 in
    by_bool (f x)
    (λ yes. absurd (h x a.0 yes))
    (λ no. let z : count (f x) ≡ 0 = ap count no in omega (arith, e, z, rest))

-- an element passes a test that some do
pub some-passes : (f : ℕ → Bool) (xs : List ℕ) → 1 ≤ count_by f xs → (x : ℕ) × IsIn xs x × (f x ≡ true)
some-passes f [] h = absurd (omega (arith, h))
some-passes f (x ∷ xs) h =
    let count : Bool → ℕ = λ b. cond b 1 0 in
    let e = sum_by-cons (λ (y : ℕ). cond (f y) 1 0) x xs in
    by_bool (f x)
    (λ yes. (x, inl refl, yes))
    (λ no.
    let z : count (f x) ≡ 0 = ap count no in
    let rest = some-passes f xs (omega (arith, e, z, h)) in
    (rest.0, inr rest.1, rest.2))

-- one passes where some element does, and where one passes, some element does
pub in-passes : (f : ℕ → Bool) (xs : List ℕ) (x : ℕ) → IsIn xs x → f x ≡ true → list_any f xs ≡ true
in-passes f [] x i e = absurd i
in-passes f (y ∷ ys) x (inl q) e =
    ap (λ (b : Bool). b || list_any f ys) (subst (λ (z : ℕ). f z ≡ true) (sym q) e)
in-passes f (y ∷ ys) x (inr i) e = or_right (f y) (list_any f ys) (in-passes f ys x i e)

pub passes-in : (f : ℕ → Bool) (xs : List ℕ) → list_any f xs ≡ true → (x : ℕ) × IsIn xs x × (f x ≡ true)
passes-in f [] e = absurd (false≢true e)
passes-in f (y ∷ ys) e = by_bool (f y)
    (λ yes. (y, inl refl, yes))
    (λ no.
    let rest = passes-in f ys (sym (ap (λ (b : Bool). b || list_any f ys) no) ∙ e) in
    (rest.0, inr rest.1, rest.2))
