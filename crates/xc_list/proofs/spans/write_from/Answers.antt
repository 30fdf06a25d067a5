use Rattle.xc_text.proofs.SinkLemmas.{then_writes, broke_before, failed}
use Rattle.xc_list.proofs.spans.write_from.Goals as goal

pub returns-in_err-write_all : goal.returns-in_err-write_all
returns-in_err-write_all g c = failed _ c.from_residual.ensures.0 (broke_before _ c.in_err-write_all.ensures)

pub returns : goal.returns
returns g c = then_writes _ _ c.write_row.result c.in_ok-write_all.ensures c.write_row.ensures
