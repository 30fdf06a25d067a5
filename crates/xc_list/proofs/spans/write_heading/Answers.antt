use Rattle.xc_text.proofs.SinkLemmas.{then_took, then_broke, broke_before, then_writes, failed}
use Rattle.xc_list.proofs.spans.write_heading.Goals as goal

pub returns-in_err-write_from : goal.returns-in_err-write_from
returns-in_err-write_from g c =
    failed _ c.from_residual.ensures.0 (broke_before _ (broke_before _ c.in_err-write_from.ensures))

pub returns-in_err-write_problem_part : goal.returns-in_err-write_problem_part
returns-in_err-write_problem_part g c =
    failed _ c.from_residual-in_err-write_problem_part.ensures.0 (broke_before _ (then_broke c.in_ok-write_from.ensures
    c.in_err-write_problem_part.ensures))

pub returns : goal.returns
returns g c =
    then_writes _ _ c.write_all.result (then_took c.in_ok-write_from.ensures c.in_ok-write_problem_part.ensures)
    c.write_all.ensures
