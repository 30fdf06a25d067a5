use Rattle.xc_dance.proofs.WholeTables.{filled_all, column_len, column_more}
use Rattle.xc_moves.proofs.PlaceLemmas.{low_most}
use Rattle.std.proofs.lemmas.List.FromFn.{length-range_with_len}
use Rattle.std.proofs.Common.{ne_eqb}
use Rattle.std.proofs.Common.{arith, ◌+◌, ◌≡◌}
use Rattle.xc_input.specs.Problem.{bounds_at}
use Rattle.xc_input.specs.ItemBounds.{bounds_of}
use Rattle.std.specs.Prelude.{Some}
use Rattle.xc_dance.proofs.links.first_items.set_bounds.Goals as goal
use Rattle.xc_dance.proofs.links.first_items.set_bounds.Goals.{After-item-item}
use Rattle.xc_dance.proofs.TableLemmas.{same_items}

-- the item has the bounds of its number
bounds_here : (c : After-item-item)
    → bounds_at c.args.problem.now.puzzle (c.loop-i.i + 1) ≡ Some (bounds_of c.item-item.result.now)
bounds_here c = grind arith

pub overflow_sub-item : goal.overflow_sub-item
overflow_sub-item c = let low = low_most (c.loop-i.i + 1) c.requires.valid in grind arith

pub set_bounds-requires : goal.set_bounds-requires
set_bounds-requires c = grind (arith, column_len)

pub loop-i-preserved : goal.loop-i-preserved
loop-i-preserved c = grind (arith, bounds_here, column_more, same_items, ne_eqb)

pub returns : goal.returns
returns c = grind (arith, same_items, filled_all, length-range_with_len)
