use Rattle.std.proofs.Common.{arith}
use Rattle.std.proofs.Common.{subst}
use Rattle.xc_moves.specs.Commits.{CanStand}
use Rattle.xc_dance.specs.inner.Tables.{uses_behind, uses_before}
use Rattle.xc_moves.proofs.LeftLemmas.{stood_before, after_uses-append}
use Rattle.xc_dance.proofs.links.LinksDance.commit.Goals as goal

pub commit_behind-end-requires : goal.commit_behind-end-requires
commit_behind-end-requires c =
    let s = c.args.self.now in
    let x = c.requires.can.0 in
    let before = uses_before s.puzzle c.args.i x in
    let both = after_uses-append s.puzzle (uses_behind s.puzzle c.args.i x) before s.trail in
    (x, c.requires.can.1, stood_before _ _ before _ (subst (CanStand s.puzzle s.room) both c.requires.can.2))

pub commit_before-requires-clause-can : goal.commit_before-requires-clause-can
commit_before-requires-clause-can c = grind (arith, after_uses-append)

pub returns-clause-committed : goal.returns-clause-committed
returns-clause-committed c = λ x held. grind (arith, after_uses-append)
