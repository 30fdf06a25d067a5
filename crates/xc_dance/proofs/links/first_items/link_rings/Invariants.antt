use Rattle.std.proofs.Common.{◌≡◌}
use Rattle.xc_dance.specs.inner.Tables.{linked_to}
use Rattle.xc_dance.proofs.links.first_items.link_rings.Given as goal

abbrev pub invariant-loop-i : goal.invariant-loop-i
invariant-loop-i l = l.items.cells ≡ linked_to l.problem.puzzle l.i
