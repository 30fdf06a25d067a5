use Rattle.xc_text.proofs.SinkLemmas.{then_took, then_broke, broke_before, then_writes, failed}
use Rattle.xc_list.proofs.spans.write_closing.Goals as goal

pub returns-in_err-write_all : goal.returns-in_err-write_all
returns-in_err-write_all g c = failed _ c.from_residual.ensures.0 (broke_before _ c.in_err-write_all.ensures)

pub returns-in_err-write_all-2 : goal.returns-in_err-write_all-2
returns-in_err-write_all-2 g c =
    failed _ c.from_residual-in_err-write_all-2.ensures.0 (broke_before _ (then_broke c.in_ok-write_all.ensures
    c.in_err-write_all-2.ensures))

pub returns : goal.returns
returns g c =
    then_writes _ _ c.write_all-3.result (then_took c.in_ok-write_all.ensures c.in_ok-write_all-2.ensures)
    c.write_all-3.ensures
