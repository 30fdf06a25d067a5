use Rattle.std.specs.Prelude.{take}
use Rattle.refutation.specs.inner.Steps.{AreFalseBeside}
use Rattle.refutation.proofs.clause.open_beside.Given as goal

abbrev pub invariant-loop-literal : goal.invariant-loop-literal
invariant-loop-literal l = AreFalseBeside l.trail l.other (take l.literal-index l.clause)
