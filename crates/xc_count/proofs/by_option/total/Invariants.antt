use Rattle.std.proofs.Common.{◌≡◌, ◌+◌, [], length}
use Rattle.xc_count.specs.inner.ByOption.{ways_from}
use Rattle.xc_count.specs.inner.Worth.{worth_by}
use Rattle.xc_count.proofs.by_option.total.Given as goal

abbrev pub invariant-loop-state : goal.invariant-loop-state
invariant-loop-state l = worth_by (ways_from l.problem.puzzle []) l.states.items + l.sum
    ≡ worth_by (ways_from l.problem.puzzle []) l.fn.layer.states.items

abbrev pub decreases-loop-state : goal.decreases-loop-state
decreases-loop-state l = length l.states.items
