use Rattle.std.proofs.lemmas.Grind.{common_steps}
use Rattle.std.proofs.Common.{arith, ◌∙◌}
use Rattle.xc_input.proofs.FaultLemmas.{items-length}
use Rattle.xc_search.specs.inner.Levels.{chosen, IsShown}
use Rattle.xc_search.proofs.BranchLemmas.{one_put, room_left, all_behind}
use Rattle.xc_search.proofs.stack.put_choices.Goals as goal

pub push_reserved-requires : goal.push_reserved-requires
push_reserved-requires g c =
    let room =
    room_left (chosen c.args.shown.1.now.puzzle) c.loop-rest.choices.items c.loop-rest.rest.now
    c.in-len1-up.len_at_least c.args.shown.0.now _ c.loop-rest.invariant.items c.requires.room in
    omega (arith, room, c.loop-rest.invariant.capacity, items-length c.loop-rest.choices)

pub loop-rest-preserved : goal.loop-rest-preserved
loop-rest-preserved g c =
    let put = c.push_reserved.ensures in
    record {
      items = one_put (chosen c.args.shown.1.now.puzzle) c.loop-rest.choices.items c.loop-rest.rest.now
          c.in-len1-up.len_at_least _ _ _ _ put.items c.newest_choice.ensures c.loop-rest.invariant.items;
      capacity = put.capacity ∙ c.loop-rest.invariant.capacity;
      shown = all_behind (IsShown c.args.shown.1.now.puzzle) c.loop-rest.rest.now c.loop-rest.invariant.shown;
    }

pub loop-rest-init : goal.loop-rest-init
loop-rest-init g c = grind (arith, common_steps)

pub returns-clause-items : goal.returns-clause-items
returns-clause-items g c = grind (arith, common_steps)
