-- Where a byte stands in a list, and a list that is cut there.
use Rattle.std.proofs.Common.{ℕ, zero, ◌≡◌, suc, ◌<◌, List, [], ◌∷◌, ◌++◌, length, true, false}
use Rattle.std.proofs.Common.{get_or, take, drop, refl, arith, nat_eq, ◌+◌, ◌-◌, add-one}
use Rattle.std.proofs.lemmas.List.{take_rest}
use Rattle.std.proofs.lemmas.Bool.Decides.{nat_tests}
use Rattle.xc_text.specs.Words.{has, before, after}

-- a byte that isn't found
pub has-all : (b : ℕ) (xs : List ℕ) → ((k : ℕ) → k < length xs → nat_eq (get_or xs k 0) b ≡ false) → (has b xs ≡ false)
    × (before b xs ≡ xs)
has-all b [] h = (refl, refl)
has-all b (x ∷ xs) h = grind (arith, nat_tests, has-all b xs (λ k p. h (suc k) (omega arith)), h 0 (omega arith))

-- a byte that is found first at i
pub has-at : (b : ℕ) (xs : List ℕ) (i : ℕ) → i < length xs → ((k : ℕ) → k < i → nat_eq (get_or xs k 0) b ≡ false)
    → nat_eq (get_or xs i 0) b ≡ true → (has b xs ≡ true) × (take i xs ≡ before b xs) × (drop (suc i) xs ≡ after b xs)
has-at b [] i p h e = absurd (omega arith)
has-at b (x ∷ xs) zero p h e = rw e (refl, refl, refl)
has-at b (x ∷ xs) (suc i) p h e =
    grind (arith, nat_tests, has-at b xs i (omega arith) (λ k q. h (suc k) (omega arith)) e, h 0 (omega arith))

pub cut-is : (b : ℕ) (xs : List ℕ) → has b xs ≡ true → (xs ≡ before b xs ++ b ∷ after b xs)
    × (has b (before b xs) ≡ false)
cut-is b [] e = absurd (cc)
cut-is b (x ∷ xs) e = grind (arith, nat_tests, cut-is b xs)

pub no-cut : (b : ℕ) (xs : List ℕ) → has b xs ≡ false → before b xs ≡ xs
no-cut b [] e = refl
no-cut b (x ∷ xs) e = grind (arith, no-cut b xs)

pub cut-at : (b : ℕ) (p q : List ℕ) → has b p ≡ false → (before b (p ++ b ∷ q) ≡ p) × (after b (p ++ b ∷ q) ≡ q)
    × (has b (p ++ b ∷ q) ≡ true)
cut-at b [] q e = grind (arith, nat_tests)
cut-at b (x ∷ p) q e = grind (arith, cut-at b p q)

-- a text cut at its first such byte
pub first_cut : (b : ℕ) (xs ys : List ℕ) (k : ℕ) → ys ≡ take (length xs - (k + 1)) (drop (k + 1) xs) → k < length xs
    → ((j : ℕ) → j < k → nat_eq (get_or xs j 0) b ≡ false) → nat_eq (get_or xs k 0) b ≡ true
    → (has b (take k xs) ≡ false) × (xs ≡ take k xs ++ b ∷ ys)
first_cut b xs ys k e l h g =
    grind (arith, nat_tests, has-at b xs k l h g, cut-is b xs, take_rest xs (k + 1), add-one k)
