use Rattle.std.proofs.Common.{length}
use Rattle.xc_count.proofs.narrow.reach.Reach.queue_changed.Given as goal

abbrev pub decreases-loop-item : goal.decreases-loop-item
decreases-loop-item l = length l.self.queue.changed.items
