use Rattle.std.proofs.Common.{◌≡◌}
use Rattle.xc_moves.specs.inner.Uses.{start_at}
use Rattle.xc_dance.proofs.TableLemmas.{starts_to}
use Rattle.xc_dance.proofs.links.node_counts.option_starts.Given as goal

abbrev pub invariant-loop-o : goal.invariant-loop-o
invariant-loop-o l = record {
  starts : l.starts.items ≡ starts_to l.problem.puzzle l.o;
  start : l.start ≡ start_at l.problem.puzzle l.o;
}
