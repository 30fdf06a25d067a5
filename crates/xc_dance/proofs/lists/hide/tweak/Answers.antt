use Rattle.std.proofs.Common.{arith, get_or, ◌-◌}
use Rattle.std.proofs.lemmas.Grind.{common_steps}
use Rattle.xc_dance.specs.inner.Lists.{lists_after}
use Rattle.xc_dance.proofs.LosingLists.{list_of, lists_hold, list_after, length_numbers}
use Rattle.xc_moves.proofs.MoveLemmas.{known_option}
use Rattle.xc_dance.proofs.LosingLists.{first_hidden_lists, lists_tweaked}
use Rattle.xc_dance.proofs.lists.hide.tweak.Goals as goal

pub hide_if_open-requires-clause-option : goal.hide_if_open-requires-clause-option
hide_if_open-requires-clause-option c =
    let p = c.args.standing.now.puzzle in
    let are = lists_hold p c.args.standing.now.trail in
    let list = list_of p 1 (c.args.item - 1) (lists_after p c.args.standing.now.trail) are.1 in
    grind (arith, known_option)

pub hide_if_open-requires-clause-lists : goal.hide_if_open-requires-clause-lists
hide_if_open-requires-clause-lists c = grind (arith, common_steps, lists_hold)

pub take_out-requires-clause-list : goal.take_out-requires-clause-list
take_out-requires-clause-list c =
    let p = c.args.standing.now.puzzle in
    let are = first_hidden_lists p c.args.standing.now.trail c.args.item (get_or c.list.result.now 0 0) in
    grind (arith, lists_hold)

pub take_out-requires-clause-rises : goal.take_out-requires-clause-rises
take_out-requires-clause-rises c =
    let p = c.args.standing.now.puzzle in
    let are = first_hidden_lists p c.args.standing.now.trail c.args.item (get_or c.list.result.now 0 0) in
    grind (arith, lists_hold, list_of)

pub returns : goal.returns
returns c = grind (arith, length_numbers, list_after, lists_tweaked)
