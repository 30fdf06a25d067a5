use Rattle.std.proofs.Common.{arith}
use Rattle.std.proofs.Common.{◌+◌, sym, ◌∙◌, subst, drop}
use Rattle.xc_moves.specs.Dancing.{Dancing}
use Rattle.xc_moves.specs.Commits.{CanStand}
use Rattle.xc_moves.proofs.LeftLemmas.{at_use, stood_before}
use Rattle.xc_moves.proofs.dance.Dance.commit_uses.Goals as goal

pub commit_use-requires-clause-stands : goal.commit_use-requires-clause-stands
commit_use-requires-clause-stands g c =
    let s = g.Self.Dance.state c.loop-u.self in
    let next = at_use s c.args.uses.now c.loop-u.u-index (record { item = 0; colour = 0 }) c.loop-u-test.true in
    stood_before s.puzzle s.room (drop (c.loop-u.u-index + 1) c.args.uses.now) _
    (subst (λ (s : Dancing). CanStand s.puzzle s.room s.trail) (sym c.loop-u.invariant ∙ next) c.requires.stands)

pub loop-u-preserved : goal.loop-u-preserved
loop-u-preserved g c = grind (arith, at_use)
