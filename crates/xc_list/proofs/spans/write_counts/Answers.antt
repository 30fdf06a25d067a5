use Rattle.xc_text.proofs.SinkLemmas.{broke_before, then_writes, failed}
use Rattle.xc_list.proofs.spans.write_counts.Goals as goal

pub returns-in_err-write_numbered : goal.returns-in_err-write_numbered
returns-in_err-write_numbered g c =
    failed _ c.from_residual.ensures.0 (broke_before _ c.in_err-write_numbered.ensures)

pub returns : goal.returns
returns g c = then_writes _ _ c.write_number.result c.in_ok-write_numbered.ensures c.write_number.ensures
