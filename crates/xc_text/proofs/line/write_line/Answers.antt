use Rattle.xc_text.proofs.SinkLemmas.{then_took, then_broke, broke_before, then_writes, failed}
use Rattle.xc_text.proofs.line.write_line.Goals as goal

pub returns-in_err-write_all-in-None-2 : goal.returns-in_err-write_all-in-None-2
returns-in_err-write_all-in-None-2 g c =
    let end = rw (c.as_bytes-number.ensures.value, c.format.ensures.text) at c.in_err-write_all-in-None-2.ensures in
    failed _ c.from_residual-in_err-write_all-in-None-2.ensures.0
    (broke_before _ (then_broke c.in_ok-write_all-in-None.ensures end))

pub returns-in_ok-write_all-in-None-2 : goal.returns-in_ok-write_all-in-None-2
returns-in_ok-write_all-in-None-2 g c =
    let end = rw (c.as_bytes-number.ensures.value, c.format.ensures.text) at c.in_ok-write_all-in-None-2.ensures in
    then_writes _ _ c.write_parts.result (then_took c.in_ok-write_all-in-None.ensures end) c.write_parts.ensures
