use Rattle.std.proofs.Common.{◌≡◌}
use Rattle.xc_count.proofs.rival.Rival.ahead.Given as goal

abbrev pub invariant-loop-left : goal.invariant-loop-left
invariant-loop-left l = l.self.puzzle ≡ l.initial.self.puzzle

abbrev pub decreases-loop-left : goal.decreases-loop-left
decreases-loop-left l = l.left
