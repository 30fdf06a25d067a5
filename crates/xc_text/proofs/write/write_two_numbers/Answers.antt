use Rattle.xc_text.proofs.SinkLemmas.{then_took, then_broke, broke_before, then_writes, failed}
use Rattle.xc_text.proofs.write.write_two_numbers.Goals as goal

pub returns-in_err-write_numbered : goal.returns-in_err-write_numbered
returns-in_err-write_numbered g c =
    failed _ c.from_residual.ensures.0 (broke_before _ (broke_before _ c.in_err-write_numbered.ensures))

pub returns-in_err-write_number : goal.returns-in_err-write_number
returns-in_err-write_number g c =
    failed _ c.from_residual-in_err-write_number.ensures.0 (broke_before _ (then_broke c.in_ok-write_numbered.ensures
    c.in_err-write_number.ensures))

pub returns : goal.returns
returns g c =
    then_writes _ _ c.write_all.result (then_took c.in_ok-write_numbered.ensures c.in_ok-write_number.ensures)
    c.write_all.ensures
