use Rattle.std.proofs.Common.{◌≡◌, take}
use Rattle.xc_dance.specs.inner.Lists.{numbers_of, enlisted}
use Rattle.xc_dance.proofs.lists.build.enlist.Given as goal

abbrev pub invariant-loop-u : goal.invariant-loop-u
invariant-loop-u l =
    numbers_of l.lists.items ≡ enlisted (take l.u-index l.uses) l.option (numbers_of l.initial.lists.items)
