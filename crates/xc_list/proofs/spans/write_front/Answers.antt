use Rattle.xc_text.proofs.SinkLemmas.{then_took, then_broke, broke_before, then_writes, failed}
use Rattle.xc_list.proofs.spans.write_front.Goals as goal

pub returns-in_err-write_rows : goal.returns-in_err-write_rows
returns-in_err-write_rows g c =
    failed _ c.from_residual.ensures.0 (broke_before _ (broke_before _ c.in_err-write_rows.ensures))

pub returns-in_err-write_counts : goal.returns-in_err-write_counts
returns-in_err-write_counts g c =
    failed _ c.from_residual-in_err-write_counts.ensures.0 (broke_before _ (then_broke c.in_ok-write_rows.ensures
    c.in_err-write_counts.ensures))

pub returns : goal.returns
returns g c =
    then_writes _ _ c.write_problem_part.result (then_took c.in_ok-write_rows.ensures c.in_ok-write_counts.ensures)
    c.write_problem_part.ensures
