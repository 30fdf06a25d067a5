use Rattle.std.proofs.Common.{◌≡◌, length}
use Rattle.xc_moves.specs.Dancing.{moves_made}
use Rattle.xc_search.proofs.position.Position.undo_rest.Given as goal

abbrev pub invariant-loop-self : goal.invariant-loop-self
invariant-loop-self g l = record {
  still : l.self ≡ record l.initial.self { trail = l.self.trail; undone = l.self.undone };
  made : moves_made l.self ≡ moves_made l.initial.self;
}

abbrev pub decreases-loop-self : goal.decreases-loop-self
decreases-loop-self g l = length l.self.trail
