use Rattle.std.proofs.Common.{◌≡◌, take}
use Rattle.xc_count.proofs.occurring.numbers_of.Given as goal

abbrev pub invariant-loop-t : goal.invariant-loop-t
invariant-loop-t l = l.numbers.items ≡ take l.t-index l.times
