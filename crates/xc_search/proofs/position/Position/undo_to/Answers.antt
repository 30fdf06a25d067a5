use Rattle.std.proofs.Common.{arith}
use Rattle.xc_search.proofs.MoveLemmas.{oldest-drop, next_above}
use Rattle.xc_search.proofs.position.Position.undo_to.Goals as goal

pub undo-requires-clause-other : goal.undo-requires-clause-other
undo-requires-clause-other g c =
    (next_above c.args.mark c.loop-self.self.trail (omega (arith, c.loop-self-test.true, c.height.ensures))
    c.loop-self.invariant.other).0

pub loop-self-preserved : goal.loop-self-preserved
loop-self-preserved g c =
    let below = next_above c.args.mark c.loop-self.self.trail (omega (arith, c.loop-self-test.true, c.height.ensures))
    c.loop-self.invariant.other in
    grind (arith, oldest-drop, below)
