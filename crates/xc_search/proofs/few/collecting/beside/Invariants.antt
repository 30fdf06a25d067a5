use Rattle.std.proofs.Common.{◌-◌, ◌≡◌, ◌⊎◌}
use Rattle.xc_moves.specs.Moves.{IsOpenPrimary}
use Rattle.xc_search.proofs.few.collecting.beside.Given as goal

abbrev pub invariant-loop-seen : goal.invariant-loop-seen
invariant-loop-seen g l =
    (l.at ≡ 0) ⊎ IsOpenPrimary (g.D.Dance.state l.dance).puzzle (g.D.Dance.state l.dance).trail l.at

abbrev pub decreases-loop-seen : goal.decreases-loop-seen
decreases-loop-seen g l = 1000 - l.seen
