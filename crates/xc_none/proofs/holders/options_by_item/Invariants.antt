use Rattle.xc_none.specs.inner.Holders.{AreListed}
use Rattle.xc_none.proofs.holders.options_by_item.Given as goal

abbrev pub invariant-loop-o : goal.invariant-loop-o
invariant-loop-o l = AreListed l.problem.puzzle l.o l.lists.items
