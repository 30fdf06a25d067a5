-- Sets of options as lists: their members, what they have together, and how many pass a test.
use Rattle.std.proofs.Common.{ℕ, zero, suc, ◌≡◌, ◌≢◌, ◌≤◌, ◌+◌, Bool, true, false, cond, not, List, [], ◌∷◌}
use Rattle.std.proofs.Common.{filter, refl, sym, ap, ◌∙◌, arith, inl, inr, eqb, eqb-true, eq-eqb}
use Rattle.std.specs.Prelude.{sum_by, count_by, is_some}
use Rattle.std.proofs.Math.Bool.{or-true}
use Rattle.std.proofs.lemmas.List.Sums.{sum_by-cons}
use Rattle.std.proofs.lemmas.Bool.Decides.{nat_tests}
use Rattle.std.proofs.Common.{◌&&◌}
use Rattle.xc_input.specs.Problem.{Puzzle, colour_in, uses_of}
use Rattle.xc_text.proofs.ListLemmas.{IsIn, by_bool, EachTwo, each_from, each_in, in-filter, filter-in, keep_all}
use Rattle.xc_text.proofs.ListLemmas.{each-filter}
use Rattle.xc_least.specs.inner.Regions.{includes}
use Rattle.xc_least.specs.inner.Prices.{up_to}

pub has_in : (s : List ℕ) (o : ℕ) → includes s o ≡ true → IsIn s o
has_in [] o e = cc
has_in (a ∷ s) o e = grind (arith, has_in s o, eqb-true)

pub in_has : (s : List ℕ) (o : ℕ) → IsIn s o → includes s o ≡ true
in_has [] o h = absurd h
in_has (a ∷ s) o (inl q) = let same : eqb a o ≡ true = eq-eqb a o q in rw same refl
in_has (a ∷ s) o (inr q) = rw (in_has s o q) (or-true (eqb a o))

-- ---- what options that are all in a set have together is no more than what the set has

abbrev pub without : ℕ → List ℕ → List ℕ
without a ts = filter (λ t. not (eqb t a)) ts

-- each two are different
abbrev pub Differ : List ℕ → Type 0
Differ ts = EachTwo (λ x y. x ≢ y) ts

pub less_one : (f : ℕ → ℕ) (a : ℕ) (ts : List ℕ) → Differ ts → sum_by f ts ≤ f a + sum_by f (without a ts)
less_one f a [] d = omega arith
less_one f a (t ∷ ts) d = by_bool (eqb t a)
    (λ e.
    let is : t ≡ a = eqb-true t a e in
    let rest : without a ts ≡ ts = keep_all (λ t. not (eqb t a)) ts
    (each_from _ ts (λ y h. by_bool (eqb y a)
    (λ g. absurd (each_in (λ y. t ≢ y) ts y d.0 h (is ∙ sym (eqb-true y a g)))) (λ g. rw g refl))) in
    let same : without a (t ∷ ts) ≡ ts = rw e rest in
    let one : f t ≡ f a = ap f is in
    rw same (omega (arith, sum_by-cons f t ts, one)))
    (λ e.
    let more : without a (t ∷ ts) ≡ t ∷ without a ts = rw e refl in
    rw more (omega (arith, sum_by-cons f t ts, sum_by-cons f t (without a ts), less_one f a ts d.1)))

pub differ_without : (a : ℕ) (ts : List ℕ) → Differ ts → Differ (without a ts)
differ_without a [] d = tt
differ_without a (t ∷ ts) d = by_bool (not (eqb t a))
    (λ e. rw e (each-filter (λ y. t ≢ y) (λ t. not (eqb t a)) ts d.0, differ_without a ts d.1))
    (λ e. rw e (differ_without a ts d.1))

pub sum_within : (f : ℕ → ℕ) (s ts : List ℕ) → Differ ts → ((t : ℕ) → IsIn ts t → IsIn s t)
    → sum_by f ts ≤ sum_by f s
sum_within f [] [] d h = omega arith
sum_within f [] (t ∷ ts) d h = absurd (h t (inl refl))
sum_within f (a ∷ s) ts d h =
    let rest = sum_within f s (without a ts) (differ_without a ts d) (λ t k.
    let at = in-filter (λ t. not (eqb t a)) ts t k in
    elim (h t at.0) [
      | inl e ↦ let same : eqb t a ≡ true = eq-eqb t a (sym e) in let no : not (eqb t a) ≡ true = at.1 in cc
      | inr j ↦ j
    ]) in
    omega (arith, rest, less_one f a ts d, sum_by-cons f a s)

-- ---- how many pass a test

abbrev once : (ℕ → Bool) → ℕ → ℕ
once q x = cond (q x) 1 0

differ_filter : (q : ℕ → Bool) (s : List ℕ) → Differ s → Differ (filter q s)
differ_filter q [] d = tt
differ_filter q (t ∷ s) d = by_bool (q t)
    (λ e. rw e (each-filter (λ y. t ≢ y) q s d.0, differ_filter q s d.1))
    (λ e. rw e (differ_filter q s d.1))

count_passing : (q : ℕ → Bool) (s : List ℕ) → sum_by (λ o. 1) (filter q s) ≡ count_by q s
count_passing q [] = refl
count_passing q (t ∷ s) = by_bool (q t)
    (λ e.
    let one : once q t ≡ 1 = rw e refl in
    let more : filter q (t ∷ s) ≡ t ∷ filter q s = rw e refl in
    ap (λ ys. sum_by (λ o. 1) ys) more
    ∙ omega (arith, sum_by-cons (λ o. 1) t (filter q s), sum_by-cons (once q) t s, one, count_passing q s))
    (λ e.
    let none : once q t ≡ 0 = rw e refl in
    let same : filter q (t ∷ s) ≡ filter q s = rw e refl in
    ap (λ ys. sum_by (λ o. 1) ys) same ∙ omega (arith, sum_by-cons (once q) t s, none, count_passing q s))

-- ---- the numbers from n down to 1

pub in_up_to : (n o : ℕ) → 1 ≤ o → o ≤ n → IsIn (up_to n) o
in_up_to zero o low high = absurd (omega (arith, low, high))
in_up_to (suc n) o low high = by_bool (eqb (suc n) o)
    (λ e. inl (eqb-true (suc n) o e))
    (λ e. inr (in_up_to n o low (less n o high e)))
  where
    less : (n o : ℕ) → o ≤ suc n → eqb (suc n) o ≡ false → o ≤ n
    less n o high e = grind (arith, nat_tests, high, e)

-- an option holds an item, and a set has it
abbrev pub holds_and_has : Puzzle → ℕ → List ℕ → ℕ → Bool
holds_and_has p i s o = is_some (colour_in (uses_of p o) i) && includes s o

count_same : (q r : ℕ → Bool) (s : List ℕ) → ((o : ℕ) → IsIn s o → q o ≡ true → r o ≡ true)
    → count_by q s ≤ count_by r s
count_same q r [] h = omega arith
count_same q r (a ∷ s) h = by_bool (q a)
    (λ e.
    let yes = h a (inl refl) e in
    let one : once q a ≡ 1 = rw e refl in
    let two : once r a ≡ 1 = rw yes refl in
    omega (arith, one, two, sum_by-cons (once q) a s, sum_by-cons (once r) a s, count_same q r s (λ o k. h o (inr k))))
    (λ e.
    let none : once q a ≡ 0 = rw e refl in
    omega (arith, none, sum_by-cons (once q) a s, sum_by-cons (once r) a s, count_same q r s (λ o k. h o (inr k))))

-- how often a set holds an item is how many of all options hold it and are of the set
pub held_among : (p : Puzzle) (i n : ℕ) (s : List ℕ) → Differ s → ((o : ℕ) → IsIn s o → (1 ≤ o) × (o ≤ n))
    → count_by (λ o. is_some (colour_in (uses_of p o) i)) s ≤ count_by (holds_and_has p i s) (up_to n)
held_among p i n s d known =
    let q : ℕ → Bool = λ o. is_some (colour_in (uses_of p o) i) in
    let r : ℕ → Bool = holds_and_has p i s in
    let to = count_same q r s (λ o h e. both (q o) (includes s o) e (in_has s o h)) in
    let all = sum_within (λ o. 1) (filter r (up_to n)) (filter r s) (differ_filter r s d) (λ o k.
    let at = in-filter r s o k in
    filter-in r (up_to n) o (in_up_to n o (known o at.0).0 (known o at.0).1) at.1) in
    omega (arith, to, all, count_passing r s, count_passing r (up_to n))
  where
    both : (a b : Bool) → a ≡ true → b ≡ true → (a && b) ≡ true
    both true b e g = g
    both false b e g = cc
