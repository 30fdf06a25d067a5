use Rattle.std.proofs.Common.{◌-◌}
use Rattle.xc_count.proofs.narrow.reach.Reach.first_left.Given as goal

abbrev pub decreases-loop-self : goal.decreases-loop-self
decreases-loop-self l = l.primary - l.self.passed
