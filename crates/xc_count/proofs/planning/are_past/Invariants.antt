use Rattle.std.proofs.Common.{ℕ, ◌<◌, get_or, take}
use Rattle.xc_count.specs.inner.Plans.{HoldsPast}
use Rattle.xc_count.proofs.planning.are_past.Given as goal

abbrev pub invariant-loop-o : goal.invariant-loop-o
invariant-loop-o l = (j d : ℕ) → j < l.o-index
    → HoldsPast l.problem.puzzle (take l.past l.plan.order.items) (get_or l.options j d)
