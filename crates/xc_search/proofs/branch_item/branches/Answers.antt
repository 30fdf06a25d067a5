use Rattle.std.proofs.Common.{arith}
use Rattle.xc_moves.proofs.MoveLemmas.{length-listed}
use Rattle.xc_search.proofs.branch_item.branches.Goals as goal

pub overflow_add-result : goal.overflow_add-result
overflow_add-result g c = grind (arith, length-listed)

pub returns-then-low-eq0 : goal.returns-then-low-eq0
returns-then-low-eq0 g c = grind arith
