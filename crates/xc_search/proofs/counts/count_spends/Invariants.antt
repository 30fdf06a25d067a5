use Rattle.std.proofs.Common.{◌≡◌, take}
use Rattle.xc_input.specs.declared.problem.Bounds.{Bounds}
use Rattle.std.specs.Prelude.{sum_by}
use Rattle.xc_search.proofs.counts.count_spends.Given as goal

abbrev pub invariant-loop-i : goal.invariant-loop-i
invariant-loop-i l = l.spends ≡ sum_by (λ (b : Bounds). b.high) (take l.i l.problem.puzzle.bounds)
