use Rattle.std.proofs.Common.{◌≡◌, ◌+◌}
use Rattle.xc_dance.specs.inner.Tables.{bound_to}
use Rattle.xc_dance.proofs.links.first_items.set_bounds.Given as goal

abbrev pub invariant-loop-i : goal.invariant-loop-i
invariant-loop-i l = l.items.cells ≡ bound_to l.problem.puzzle (l.i + 1)
