use Rattle.std.proofs.Common.{arith}
use Rattle.xc_dance.proofs.WalkLemmas.{follow_here, follow_on, follow_end, back_unmarked}
use Rattle.xc_dance.proofs.links.list_walks.unhide_list.Goals as goal

pub come_back-count-requires-clause-can : goal.come_back-count-requires-clause-can
come_back-count-requires-clause-can c = (follow_here (omega arith) c.loop.invariant.walk).can

pub up-p-requires-in-loop : goal.up-p-requires-in-loop
up-p-requires-in-loop c = (follow_here (omega arith) c.loop.invariant.walk).within _ c.come_back-count.ensures.done

pub loop-preserved : goal.loop-preserved
loop-preserved c =
    let made = c.come_back-count.ensures in
    let unmarked = back_unmarked _ _ _ _ _ _ made.done c.requires.none c.loop.invariant.unmarked in
    let walk = follow_on _ _ _ (omega arith) made.done c.up-p-in-loop.ensures made.cost c.loop.invariant.walk in
    grind arith

pub returns : goal.returns
returns c = let e = follow_end (omega arith) c.loop.invariant.walk in grind arith
