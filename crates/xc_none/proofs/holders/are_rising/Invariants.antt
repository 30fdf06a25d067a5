use Rattle.std.proofs.Common.{ℕ, ◌<◌, get_or}
use Rattle.xc_none.proofs.holders.are_rising.Given as goal

abbrev pub invariant-loop-k : goal.invariant-loop-k
invariant-loop-k l = (i j : ℕ) → i < j → j < l.k → get_or l.options i 0 < get_or l.options j 0
