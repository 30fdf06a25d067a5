use Rattle.std.proofs.Common.{◌≡◌, length, take}
use Rattle.refutation.proofs.trail.Trail.cut.Given as goal

abbrev pub invariant-cutting : goal.invariant-cutting
invariant-cutting l = take l.place l.self ≡ take l.place l.fn.self

abbrev pub decreases-cutting : goal.decreases-cutting
decreases-cutting l = length l.self
