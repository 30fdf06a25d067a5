use Rattle.std.proofs.Common.{◌≡◌}
use Rattle.xc_dance.specs.inner.Tables.{laid_to}
use Rattle.xc_dance.proofs.links.first_nodes.lay_items.Given as goal

abbrev pub invariant-loop-i : goal.invariant-loop-i
invariant-loop-i l = l.rows ≡ laid_to l.problem.puzzle l.i
