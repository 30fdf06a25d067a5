use Rattle.std.proofs.Common.{Err}
use Rattle.std.proofs.lemmas.List.Sorted.{searched}
use Rattle.xc_dance.proofs.LosingLists.{less-not_found, rises_weakly}
use Rattle.xc_dance.proofs.lists.undo_log.place_in_list.Goals as goal

pub returns-in-Err : goal.returns-in-Err
returns-in-Err c =
    let xs = c.args.numbers.now in
    let found = searched xs c.args.number (Err c.in-Err.field-0) c.in-Err.ensures.position (rises_weakly 0 xs
    c.requires) in
    less-not_found c.args.number _ xs found.1 found.2
