use Rattle.std.proofs.Common.{◌≡◌, ◌+◌}
use Rattle.xc_moves.specs.Places.{spacer_place}
use Rattle.xc_dance.specs.inner.Tables.{laid_to}
use Rattle.xc_dance.proofs.links.first_nodes.lay_uses.Given as goal

abbrev pub invariant-loop-u : goal.invariant-loop-u
invariant-loop-u l = l.rows ≡ laid_to l.problem.puzzle (spacer_place l.problem.puzzle l.o + 1 + l.u-index)
