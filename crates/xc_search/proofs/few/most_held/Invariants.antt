use Rattle.std.proofs.Common.{◌<◌}
use Rattle.xc_search.proofs.few.most_held.Given as goal

abbrev pub invariant-loop-o : goal.invariant-loop-o
invariant-loop-o l = 0 < l.each
