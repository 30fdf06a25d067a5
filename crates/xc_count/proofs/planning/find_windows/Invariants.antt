use Rattle.std.proofs.Common.{ℕ, ◌≡◌, ◌<◌, length, take}
use Rattle.xc_input.specs.Problem.{IsItem}
use Rattle.xc_count.specs.inner.Keys.{rank_of}
use Rattle.xc_count.specs.inner.Plans.{AreWindows, IsOver}
use Rattle.xc_count.proofs.planning.find_windows.Given as goal

abbrev pub invariant-loop-place : goal.invariant-loop-place
invariant-loop-place l = record {
  many : length l.windows.items ≡ l.place;
  windows : AreWindows l.problem.puzzle l.plan.order.items l.plan.ranking.ranks.items l.windows.items;
  over : (i : ℕ) → IsItem l.problem.puzzle i → rank_of l.plan.ranking.ranks.items i < l.from
      → IsOver l.problem.puzzle (take l.place l.plan.order.items) i;
}
