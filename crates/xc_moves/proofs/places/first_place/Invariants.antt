use Rattle.std.proofs.Common.{◌≡◌}
use Rattle.xc_moves.specs.inner.Uses.{start_at}
use Rattle.xc_moves.proofs.places.first_place.Given as goal

abbrev pub invariant-loop-before : goal.invariant-loop-before
invariant-loop-before l = l.place ≡ start_at l.problem.puzzle l.before
