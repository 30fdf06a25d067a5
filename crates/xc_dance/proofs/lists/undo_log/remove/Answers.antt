use Rattle.std.proofs.Common.{arith}
use Rattle.xc_dance.proofs.LosingLists.{less-remove, row_removed}
use Rattle.std.proofs.lemmas.List.{map-set, get_or-map}
use Rattle.xc_dance.proofs.lists.undo_log.remove.Goals as goal
use Rattle.std.proofs.Common.{vec_capacity}
use Rattle.std.proofs.Math.Seq.{map-set_same}

pub returns-clause-lists : goal.returns-clause-lists
returns-clause-lists c = grind (arith, less-remove, get_or-map, map-set)

pub returns-clause-rooms : goal.returns-clause-rooms
returns-clause-rooms c = grind (arith, map-set_same, vec_capacity)

pub returns-clause-back : goal.returns-clause-back
returns-clause-back c =
    let e = row_removed c.args.lists.now.items c.remove.new.self c.args.list c.in_ok-place.place c.args.number
    c.index_mut-row.result.now in
    grind arith
