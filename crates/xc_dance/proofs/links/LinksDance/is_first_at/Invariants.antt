use Rattle.std.proofs.Common.{ℕ}
use Rattle.xc_moves.specs.Commits.{IsUseAt}
use Rattle.xc_dance.proofs.FirstItems.{IsBack}
use Rattle.xc_dance.proofs.links.LinksDance.is_first_at.Given as goal

-- no use behind the node before is of a primary item, up to that at the place
abbrev pub invariant-loop-self : goal.invariant-loop-self
invariant-loop-self l = (x : ℕ) → IsUseAt l.fn.self.puzzle l._i x l.place →
    IsBack l.fn.self.puzzle l._i x l.place l.before

abbrev pub decreases-loop-self : goal.decreases-loop-self
decreases-loop-self l = l.before
