use Rattle.std.proofs.Common.{◌≡◌}
use Rattle.std.specs.Prelude.{sum_by}
use Rattle.xc_none.specs.inner.Weights.{excess, upto}
use Rattle.xc_none.proofs.weights.beyond.Given as goal

abbrev pub invariant-loop-o : goal.invariant-loop-o
invariant-loop-o l = l.sum ≡ sum_by (excess l.weights l.problem.puzzle) (upto l.o)
