use Rattle.xc_text.proofs.SinkLemmas.{then_took, then_broke, broke_before, then_writes, failed}
use Rattle.xc_list.proofs.uses.write_use.Goals as goal

pub returns-in_err-write_name : goal.returns-in_err-write_name
returns-in_err-write_name g c =
    failed _ c.from_residual-in_err-write_name.ensures.0 (broke_before _ (then_broke c.in_ok-write_all.ensures
    c.in_err-write_name.ensures))

pub returns : goal.returns
returns g c =
    then_writes _ _ c.write_colour.result (then_took c.in_ok-write_all.ensures c.in_ok-write_name.ensures)
    c.write_colour.ensures
