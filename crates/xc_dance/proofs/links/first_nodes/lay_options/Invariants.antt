use Rattle.std.proofs.Common.{◌≡◌}
use Rattle.xc_moves.specs.Places.{spacer}
use Rattle.xc_dance.specs.inner.Tables.{fixed_up, laid_to}
use Rattle.xc_moves.specs.Places.{spacer_place}
use Rattle.xc_dance.proofs.links.first_nodes.lay_options.Given as goal

abbrev pub invariant-loop-o : goal.invariant-loop-o
invariant-loop-o l = record {
  rows : l.rows ≡ laid_to l.problem.puzzle l.place;
  place : l.place ≡ spacer_place l.problem.puzzle l.o;
  above : l.above ≡ fixed_up l.problem.puzzle (spacer l.o);
}
