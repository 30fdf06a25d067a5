use Rattle.std.proofs.Common.{arith, ℕ, ◌-◌, take, List, filter, not}
use Rattle.std.proofs.lemmas.Grind.{common_steps}
use Rattle.std.specs.Prelude.{Option}
use Rattle.xc_input.specs.Problem.{Puzzle}
use Rattle.std.proofs.lemmas.List.{take_more}
use Rattle.xc_dance.specs.inner.Lists.{list_at, keeps_colour}
use Rattle.xc_dance.proofs.LosingLists.{lose_none, lose_more, length-lose_from, lists-lose_from, read_option}
use Rattle.xc_dance.proofs.lists.hide.hide_options.Goals as goal

abbrev gone : Puzzle → ℕ → Option ℕ → List ℕ → List ℕ
gone p i kept os = filter (λ o. not (keeps_colour p i kept o)) os

pub loop-at-init : goal.loop-at-init
loop-at-init c = grind (arith, lose_none)

pub list-requires : goal.list-requires
list-requires c = grind (arith, length-lose_from)

pub bounds-list-at : goal.bounds-list-at
bounds-list-at c =
    let p = c.args.standing.now.puzzle in
    let ls = c.args.live.now.lists in
    let lost = gone p c.args.item c.args.kept (take c.loop-at.at (list_at ls (c.args.item - 1))) in
    let read = read_option p c.args.standing.now.trail c.args.item lost c.loop-at.at c.list.result.now in
    grind (arith, read c.loop-at.live.lists ls)

pub keeps-requires : goal.keeps-requires
keeps-requires c = grind (arith, read_option)

pub hide-requires-clause-option : goal.hide-requires-clause-option
hide-requires-clause-option c = grind (arith, read_option)

pub hide-requires-clause-lists : goal.hide-requires-clause-lists
hide-requires-clause-lists c = grind (arith, length-lose_from, lists-lose_from)

pub loop-at-preserved : goal.loop-at-preserved
loop-at-preserved c = grind (arith, common_steps, lose_more, read_option, take_more)
