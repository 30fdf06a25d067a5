use Rattle.std.proofs.Common.{arith}
use Rattle.std.proofs.lemmas.Grind.{common_steps}
use Rattle.std.proofs.lemmas.List.{take_more}
use Rattle.xc_dance.proofs.LosingLists.{hidden_none, hidden_more, hidden_same, hidden_all, length-hidden_from}
use Rattle.xc_dance.proofs.LosingLists.{lists-hidden_from, list_of}
use Rattle.xc_dance.proofs.lists.hide.hide.Goals as goal

pub loop-u-init : goal.loop-u-init
loop-u-init c = grind (arith, hidden_none)

pub take_out-requires-clause-list : goal.take_out-requires-clause-list
take_out-requires-clause-list c = grind (arith, length-hidden_from)

pub take_out-requires-clause-rises : goal.take_out-requires-clause-rises
take_out-requires-clause-rises c =
    grind (arith, length-hidden_from, lists-hidden_from, list_of c.args.standing.now.puzzle 1)

pub loop-u-preserved : goal.loop-u-preserved
loop-u-preserved c = grind (arith, common_steps, hidden_more, hidden_same, take_more)

pub returns : goal.returns
returns c = grind (arith, common_steps, hidden_all)
