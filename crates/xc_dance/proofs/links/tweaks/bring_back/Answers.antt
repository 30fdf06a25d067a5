use Rattle.std.proofs.Common.{arith}
use Rattle.xc_dance.proofs.WalkLemmas.{follow_here, follow_on, follow_end}
use Rattle.xc_dance.proofs.links.tweaks.bring_back.Goals as goal

pub bring_back_one-count-requires-clause-can : goal.bring_back_one-count-requires-clause-can
bring_back_one-count-requires-clause-can c = (follow_here c.loop-test.true c.loop.invariant.walk).can

pub down-p-requires : goal.down-p-requires
down-p-requires c = (follow_here c.loop-test.true c.loop.invariant.walk).within _ c.bring_back_one-count.ensures.done

pub loop-preserved : goal.loop-preserved
loop-preserved c = search (arith, follow_on)

pub returns : goal.returns
returns c = let e = follow_end c.loop-test.false c.loop.invariant.walk in grind arith
