use Rattle.std.proofs.Common.{arith}
use Rattle.xc_dance.proofs.WholeTables.{laid_room, laid_more, own_row}
use Rattle.xc_dance.proofs.links.first_nodes.lay_items.Goals as goal

pub lay-requires : goal.lay-requires
lay-requires c = grind (arith, own_row c.args.problem.now.puzzle c.loop-i.i, laid_room)

pub loop-i-preserved : goal.loop-i-preserved
loop-i-preserved c =
    let at = own_row _ c.loop-i.i (omega (arith, c.loop-i-test.true, c.items-i-end.ensures.value)) in
    laid_more _ _ c.lay.ensures c.loop-i.invariant at.1 at.2
