use Rattle.std.specs.BinaryHeap.{heap_len}
use Rattle.xc_count.proofs.narrow.reach.Reach.next.Given as goal

abbrev pub decreases-loop-candidate : goal.decreases-loop-candidate
decreases-loop-candidate l = heap_len l.self.queue.candidates
