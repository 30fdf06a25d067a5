use Rattle.std.proofs.Common.{◌≡◌}
use Rattle.xc_moves.specs.Moves.{next_above, open_items}
use Rattle.xc_dance.proofs.lists.trail.Trail.open_after.Given as goal

abbrev pub invariant-loop-at : goal.invariant-loop-at
invariant-loop-at l =
    next_above l.fn.item (open_items l.self.puzzle l.self.trail) ≡ next_above l.at
    (open_items l.self.puzzle l.self.trail)
