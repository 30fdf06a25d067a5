use Rattle.std.proofs.Common.{ℕ, ◌≤◌, ◌<◌, ◌-◌, length, take}
use Rattle.xc_input.specs.Problem.{IsItem}
use Rattle.xc_count.specs.inner.Keys.{rank_of}
use Rattle.xc_count.specs.inner.Plans.{IsOver}
use Rattle.xc_count.proofs.planning.next_window.Given as goal

abbrev pub invariant-loop-next : goal.invariant-loop-next
invariant-loop-next l = record {
  rises : l.from ≤ l.next;
  over : (i : ℕ) → IsItem l.problem.puzzle i → l.from ≤ rank_of l.plan.ranking.ranks.items i
      → rank_of l.plan.ranking.ranks.items i < l.next → IsOver l.problem.puzzle (take l.past l.plan.order.items) i;
}

abbrev pub decreases-loop-next : goal.decreases-loop-next
decreases-loop-next l = length l.plan.ranking.items.items - l.next
