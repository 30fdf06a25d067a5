use Rattle.std.proofs.Common.{◌+◌, ◌-◌, length}
use Rattle.xc_moves.specs.Commits.{IsUseAt}
use Rattle.xc_moves.specs.Places.{layout}
use Rattle.xc_dance.specs.inner.Tables.{uses_behind}
use Rattle.xc_dance.proofs.TableAnswers.{IsCommitting}
use Rattle.xc_dance.proofs.links.Links.commit_behind.Given as goal

-- the uses whose nodes stand before q were committed
abbrev pub invariant-loop-self : goal.invariant-loop-self
invariant-loop-self l =
    let p = l.fn.self.puzzle in
    IsCommitting (λ x. IsUseAt p l.i x l.place) (λ _. l.place + 1) (uses_behind p l.i) l.fn.self l.self l.q

abbrev pub decreases-loop-self : goal.decreases-loop-self
decreases-loop-self l = length (layout l.fn.self.puzzle) - l.q
