use Rattle.std.proofs.Common.{◌≡◌, take}
use Rattle.xc_none.specs.inner.Weights.{gains}
use Rattle.xc_none.proofs.weights.gains.Given as goal

abbrev pub invariant-loop-u : goal.invariant-loop-u
invariant-loop-u l = l.sum ≡ gains l.weights (take l.u-index l.uses)
