use Rattle.xc_text.proofs.SinkLemmas.{broke_before, then_writes, failed}
use Rattle.xc_list.proofs.spans.write_problem_part.Goals as goal

pub returns-in_err-write_all : goal.returns-in_err-write_all
returns-in_err-write_all g c = failed _ c.from_residual.ensures.0 (broke_before _ c.in_err-write_all.ensures)

pub returns : goal.returns
returns g c = then_writes _ _ c.write_all-2.result c.in_ok-write_all.ensures c.write_all-2.ensures
