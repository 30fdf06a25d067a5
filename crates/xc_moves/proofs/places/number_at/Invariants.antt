use Rattle.std.proofs.Common.{◌≡◌, ◌≤◌}
use Rattle.xc_moves.specs.Places.{spacer_place}
use Rattle.xc_moves.proofs.places.number_at.Given as goal

abbrev pub invariant-loop-before : goal.invariant-loop-before
invariant-loop-before l = record {
  spacer : l.spacer ≡ spacer_place l.problem.puzzle l.before;
  passed : l.spacer ≤ l.place;
}
