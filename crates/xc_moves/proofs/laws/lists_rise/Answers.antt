use Rattle.std.proofs.Common.{ℕ, ◌≡◌, ◌<◌, ◌≤◌, List, [], ◌∷◌, ◌++◌, length, ap, subst, ◌∙◌, arith}
use Rattle.std.proofs.Common.{length-append, le-ltb}
use Rattle.std.specs.Prelude.{slice_get}
use Rattle.std.specs.List.{AllByRecursion}
use Rattle.xc_text.proofs.ListLemmas.{EachTwo, AllPairs-from_each_two}
use Rattle.xc_moves.specs.Moves.{listed_numbers, next_above}
use Rattle.xc_moves.specs.inner.Rising.{Rises}
use Rattle.xc_moves.proofs.MoveLemmas.{Rises-weaker, next_first, rises_listed}
use Rattle.xc_moves.proofs.laws.lists_rise.Goals as goal

each_above : (n : ℕ) (xs : List ℕ) → Rises n xs → AllByRecursion (λ k. n < k) xs
each_above n [] r = tt
each_above n (x ∷ xs) r = (r.0, each_above n xs (Rises-weaker n x xs (omega (arith, r.0)) r.1))

each_two : (n : ℕ) (xs : List ℕ) → Rises n xs → EachTwo (λ m k. m < k) (n ∷ xs)
each_two n [] r = (tt, tt)
each_two n (x ∷ xs) r = (each_above n (x ∷ xs) r, each_two x xs r.1)

-- a number of a list that rises is not below its head, and the next one above it stands behind it
next : (m o : ℕ) (xs front back : List ℕ) → Rises m xs → m ∷ xs ≡ front ++ o ∷ back
    → (m ≤ o) × (next_above o xs ≡ slice_get back 0)
next m o xs [] back r e =
    let same : m ≡ o = cc in
    let rest : xs ≡ back = cc in
    let first = next_first m xs r ∙ ap (λ ys. slice_get ys 0) rest in
    (omega (arith, same), subst (λ k. next_above k xs ≡ slice_get back 0) same first)
next m o [] (y ∷ front) back r e =
    absurd (let l = simp length-append at (ap length e) in omega (arith, l))
next m o (x ∷ xs) (y ∷ front) back r e =
    let rest : x ∷ xs ≡ front ++ o ∷ back = cc in
    let h = next x o xs front back r.1 rest in (omega (arith, h.0, r.0), grind (arith, le-ltb, h.0, h.1))

pub returns-clause-rise : goal.returns-clause-rise
returns-clause-rise c = λ p t i.
    AllPairs-from_each_two (λ m n. m < n) (0 ∷ listed_numbers p t i)
    (each_two 0 (listed_numbers p t i) (rises_listed p t i))

pub returns-clause-next : goal.returns-clause-next
returns-clause-next c = λ p t i o front back e.
    (next 0 o (listed_numbers p t i) front back (rises_listed p t i) e).1
