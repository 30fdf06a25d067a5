use Rattle.std.proofs.Common.{◌≡◌, length, take, sum_by}
use Rattle.xc_dance.specs.inner.Lists.{numbers_of}
use Rattle.xc_dance.proofs.lists.undo_log.total.Given as goal

abbrev pub invariant-loop-list : goal.invariant-loop-list
invariant-loop-list l = l.numbers ≡ sum_by length (numbers_of (take l.list-index l.lists))
