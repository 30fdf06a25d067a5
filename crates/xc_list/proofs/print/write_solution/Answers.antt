use Rattle.std.proofs.Common.{arith}
use Rattle.xc_text.proofs.SinkLemmas.{then_took, then_broke, broke_before, then_writes, failed}
use Rattle.xc_list.proofs.print.write_solution.Goals as goal

pub returns-in_err-write_number : goal.returns-in_err-write_number
returns-in_err-write_number g c = grind (arith, failed, broke_before)

pub returns-in_err-write_all : goal.returns-in_err-write_all
returns-in_err-write_all g c = grind (arith, failed, broke_before, then_broke)

pub returns : goal.returns
returns g c =
    grind (arith, then_writes, then_took c.in_ok-write_number.ensures c.in_ok-write_all.ensures)
