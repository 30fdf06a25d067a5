use Rattle.xc_dance.proofs.LosingLists.{list_at-numbers_of, enlisted_none, enlisted_more, new_use, length-enlisted_from}
use Rattle.std.proofs.Common.{arith, sym}
use Rattle.std.proofs.lemmas.Grind.{common_steps}
use Rattle.std.proofs.lemmas.List.{map-set}
use Rattle.xc_dance.specs.inner.Lists.{numbers_of}
use Rattle.xc_dance.proofs.lists.build.enlist.Goals as goal

pub loop-u-init : goal.loop-u-init
loop-u-init c = sym (enlisted_none c.args.option 1 (numbers_of c.args.lists.now.items))

pub index_mut-list-requires : goal.index_mut-list-requires
index_mut-list-requires c = grind (arith, common_steps, length-enlisted_from)

pub loop-u-preserved : goal.loop-u-preserved
loop-u-preserved c =
    grind (arith, common_steps, enlisted_more, length-enlisted_from, list_at-numbers_of, map-set, new_use)
