use Rattle.std.proofs.Common.{◌≡◌, ◌+◌, drop, length}
use Rattle.xc_input.specs.Problem.{item_count}
use Rattle.xc_search.specs.Cover.{members}
use Rattle.xc_count.specs.inner.ByOption.{AtMost, ways_from}
use Rattle.xc_count.specs.inner.Worth.{worth_by}
use Rattle.xc_count.proofs.by_option.sweep_options.Given as goal

abbrev pub invariant-loop-k : goal.invariant-loop-k
invariant-loop-k l = record {
  worth : worth_by (ways_from l.problem.puzzle (drop l.k l.order.items)) l.layer.states.items
      ≡ length (members l.problem.puzzle);
  left : AtMost l.problem.puzzle (drop l.k l.order.items) l.left.items;
  len : length l.left.items ≡ item_count l.problem.puzzle + 1;
  same : l.rival.puzzle ≡ l.initial.rival.puzzle;
}
