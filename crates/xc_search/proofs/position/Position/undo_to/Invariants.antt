use Rattle.std.proofs.Common.{◌≡◌, ◌+◌, ◌-◌, ◌≤◌, length}
use Rattle.xc_search.specs.inner.Levels.{oldest, NoTweakAbove}
use Rattle.xc_search.proofs.position.Position.undo_to.Given as goal

abbrev pub invariant-loop-self : goal.invariant-loop-self
invariant-loop-self g l = record {
  enough : l.mark ≤ length l.self.trail;
  other : NoTweakAbove l.mark l.self.trail;
  still : record l.self {
    trail = oldest l.mark l.self.trail;
    undone = l.self.undone + (length l.self.trail - l.mark);
  } ≡ record l.initial.self {
    trail = oldest l.mark l.initial.self.trail;
    undone = l.initial.self.undone + (length l.initial.self.trail - l.mark);
  };
}

abbrev pub decreases-loop-self : goal.decreases-loop-self
decreases-loop-self g l = length l.self.trail
