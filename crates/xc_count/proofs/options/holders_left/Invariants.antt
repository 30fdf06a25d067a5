use Rattle.std.proofs.Common.{◌≡◌, ◌≤◌, ◌+◌, drop, length}
use Rattle.xc_input.specs.Problem.{item_count}
use Rattle.xc_count.specs.inner.ByOption.{AtMost}
use Rattle.xc_count.proofs.options.holders_left.Given as goal

abbrev pub invariant-loop-place : goal.invariant-loop-place
invariant-loop-place l = record {
  left : AtMost l.problem.puzzle (drop l.place l.order) l.left.items;
  len : length l.left.items ≡ item_count l.problem.puzzle + 1;
  within : l.place ≤ length l.order;
}

abbrev pub decreases-loop-place : goal.decreases-loop-place
decreases-loop-place l = l.place
