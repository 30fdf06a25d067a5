use Rattle.std.proofs.Common.{◌≡◌, take}
use Rattle.xc_dance.specs.inner.Lists.{numbers_of}
use Rattle.xc_dance.proofs.LosingLists.{lists_of}
use Rattle.xc_dance.proofs.lists.build.first_lists.Given as goal

abbrev pub invariant-loop-o : goal.invariant-loop-o
invariant-loop-o l = numbers_of l.lists.items ≡ lists_of l.table (take l.o l.table.options)
