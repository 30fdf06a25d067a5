use Rattle.std.proofs.Common.{◌-◌}
use Rattle.xc_moves.specs.Commits.{IsUseAt}
use Rattle.xc_moves.specs.inner.Uses.{start_at}
use Rattle.xc_dance.specs.inner.Tables.{uses_before}
use Rattle.xc_dance.proofs.TableAnswers.{IsCommitting}
use Rattle.xc_dance.proofs.links.Links.commit_before.Given as goal

-- the uses whose nodes stand before q were committed
abbrev pub invariant-loop-q : goal.invariant-loop-q
invariant-loop-q l =
    let p = l.fn.self.puzzle in
    IsCommitting (λ x. IsUseAt p l.i x l.place) (λ x. start_at p (x - 1)) (uses_before p l.i) l.fn.self l.self l.q
