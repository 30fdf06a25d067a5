use Rattle.std.proofs.Common.{◌≡◌, [], replicate}
use Rattle.xc_dance.specs.inner.Lists.{numbers_of}
use Rattle.xc_dance.proofs.lists.build.empty_lists.Given as goal

abbrev pub invariant-loop : goal.invariant-loop
invariant-loop l = numbers_of l.lists.items ≡ replicate l.counter []
