use Rattle.std.proofs.Common.{arith}
use Rattle.xc_dance.proofs.WalkLemmas.{follow_here, follow_on, follow_end, left_unmarked}
use Rattle.xc_dance.proofs.links.list_walks.hide_list.Goals as goal

pub leave-count-requires-clause-can : goal.leave-count-requires-clause-can
leave-count-requires-clause-can c = (follow_here (omega arith) c.loop.invariant.walk).can

pub down-p-requires-in-loop : goal.down-p-requires-in-loop
down-p-requires-in-loop c = (follow_here (omega arith) c.loop.invariant.walk).within _ c.leave-count.ensures.done

pub loop-preserved : goal.loop-preserved
loop-preserved c =
    let made = c.leave-count.ensures in
    let unmarked = left_unmarked _ _ _ _ _ _ made.done c.requires.none c.loop.invariant.unmarked in
    let walk = follow_on _ _ _ (omega arith) made.done c.down-p-in-loop.ensures made.cost c.loop.invariant.walk in
    record { walk = walk; unmarked = unmarked; counted = omega arith; rows = grind arith; few = omega arith }

pub returns : goal.returns
returns c = let e = follow_end (omega arith) c.loop.invariant.walk in grind arith
