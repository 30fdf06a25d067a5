use Rattle.std.proofs.Common.{◌≡◌}
use Rattle.std.specs.Prelude.{sum_by}
use Rattle.xc_none.specs.inner.Weights.{asks, upto}
use Rattle.xc_none.proofs.weights.asked.Given as goal

abbrev pub invariant-loop-i : goal.invariant-loop-i
invariant-loop-i l = l.sum ≡ sum_by (asks l.weights l.problem.puzzle) (upto l.i)
