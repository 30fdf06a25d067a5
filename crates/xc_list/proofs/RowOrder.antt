-- Rows are compared as slices are: by the first number in which they differ, and else by their lengths.
use Rattle.std.proofs.Common.{ℕ, ◌≡◌, Bool, List, Some, refl, arith}
use Rattle.std.proofs.lemmas.Bool.Decides.{nat_tests}
use Rattle.std.specs.Ordering.{is_lt, is_some_and, nat_cmp}
use Rattle.std.specs.Cmp.Lexicographic.{slice_partial_cmp}
use Rattle.std.proofs.lemmas.Cmp.{same_from_slice_cmp_tested}
use Rattle.xc_search.specs.Spans.{precedes}

pub precedes_less : (a b : List ℕ) (r : Bool)
    → r ≡ is_some_and is_lt (slice_partial_cmp (λ x y. Some (nat_cmp x y)) a b) → r ≡ precedes a b
precedes_less a b r e = same_from_slice_cmp_tested nat_cmp is_lt precedes refl (λ y ys. refl) (λ x xs. refl)
    (grind (arith, nat_tests)) a b r e
