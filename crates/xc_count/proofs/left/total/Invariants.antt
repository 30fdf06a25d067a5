use Rattle.std.proofs.Common.{◌≡◌, ◌+◌, length}
use Rattle.xc_count.specs.inner.Worth.{worth_by}
use Rattle.xc_count.proofs.left.total.Given as goal

abbrev pub invariant-loop-state : goal.invariant-loop-state
invariant-loop-state l =
    worth_by (λ key. 1) l.states.items + l.sum ≡ worth_by (λ key. 1) l.fn.layer.states.items

abbrev pub decreases-loop-state : goal.decreases-loop-state
decreases-loop-state l = length l.states.items
