use Rattle.std.proofs.Common.{◌≡◌, length}
use Rattle.xc_moves.specs.Dancing.{moves_made}
use Rattle.xc_search.specs.inner.Levels.{AreStacked}
use Rattle.xc_search.proofs.levels.unwind.Given as goal

abbrev pub invariant-loop-level : goal.invariant-loop-level
invariant-loop-level g l = record {
  still : l.position ≡ record l.initial.position
      { trail = l.position.trail; undone = l.position.undone };
  made : moves_made l.position ≡ moves_made l.initial.position;
  stacked : AreStacked l.position.puzzle l.position.trail l.stack.levels;
  stack : l.stack ≡ record l.initial.stack { levels = l.stack.levels };
}

abbrev pub decreases-loop-level : goal.decreases-loop-level
decreases-loop-level g l = length l.stack.levels
