use Rattle.std.proofs.Common.{arith}
use Rattle.std.proofs.Common.{ℕ, ◌≡◌, ◌∙◌, List, length, replicate, sym, ap}
use Rattle.std.proofs.lemmas.List.{length-replicate}
use Rattle.xc_check.proofs.CountedCovers.{short_begun, short_zeros}
use Rattle.xc_check.proofs.checker.cover_counter.CoverCounter.new.Goals as goal

again : (n : ℕ) (xs : List ℕ) → xs ≡ replicate n 0 → xs ≡ replicate (length xs) 0
again n xs e = e ∙ ap (λ m. replicate m 0) (sym (ap length e ∙ length-replicate {A = ℕ} n 0))

pub invariant_of-result : goal.invariant_of-result
invariant_of-result c = grind (arith, again, length-replicate, short_begun, short_zeros)
