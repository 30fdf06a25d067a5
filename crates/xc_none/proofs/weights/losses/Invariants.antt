use Rattle.std.proofs.Common.{◌≡◌, take}
use Rattle.xc_none.specs.inner.Weights.{losses}
use Rattle.xc_none.proofs.weights.losses.Given as goal

abbrev pub invariant-loop-u : goal.invariant-loop-u
invariant-loop-u l = l.sum ≡ losses l.weights (take l.u-index l.uses)
