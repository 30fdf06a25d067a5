use Rattle.std.proofs.Common.{arith}
use Rattle.xc_text.proofs.SinkLemmas.{then_writes}
use Rattle.xc_tools.proofs.judging.write_verdict.Goals as goal

pub returns-then-verdict : goal.returns-then-verdict
returns-then-verdict g c = grind (arith, then_writes)

pub returns-else-verdict : goal.returns-else-verdict
returns-else-verdict g c =
    rw c.if-verdict.false (then_writes _ _ c.write_all-else-verdict.result c.in_ok-write_number.ensures
    c.write_all-else-verdict.ensures)
