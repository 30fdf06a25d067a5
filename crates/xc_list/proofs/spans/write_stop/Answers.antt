use Rattle.std.proofs.Common.{arith}
use Rattle.xc_text.proofs.SinkLemmas.{then_took, then_broke, broke_before, then_writes, failed}
use Rattle.xc_list.proofs.spans.write_stop.Goals as goal

pub returns-in_err-write_reached : goal.returns-in_err-write_reached
returns-in_err-write_reached g c = grind (arith, failed, broke_before)

pub returns-in_err-write_all : goal.returns-in_err-write_all
returns-in_err-write_all g c = grind (arith, failed, broke_before, then_broke)

pub returns : goal.returns
returns g c =
    grind (arith, then_writes, then_took c.in_ok-write_reached.ensures c.in_ok-write_all.ensures)
