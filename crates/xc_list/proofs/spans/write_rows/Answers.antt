use Rattle.xc_text.proofs.SinkLemmas.{then_took, then_broke, broke_before, then_writes, failed}
use Rattle.xc_list.proofs.spans.write_rows.Goals as goal

pub returns-in_err-write_from : goal.returns-in_err-write_from
returns-in_err-write_from g c =
    failed _ c.from_residual.ensures.0 (broke_before _ (broke_before _ (rw c.deref.ensures.value at
    c.in_err-write_from.ensures)))

pub returns-in_err-write_all : goal.returns-in_err-write_all
returns-in_err-write_all g c =
    failed _ c.from_residual-in_err-write_all.ensures.0 (broke_before _ (then_broke (rw c.deref.ensures.value at
    c.in_ok-write_from.ensures) c.in_err-write_all.ensures))

pub returns : goal.returns
returns g c =
    then_writes _ _ c.write_until.result (then_took (rw c.deref.ensures.value at c.in_ok-write_from.ensures)
    c.in_ok-write_all.ensures) (rw c.deref-2.ensures.value at c.write_until.ensures)
