use Rattle.std.proofs.Common.{refl, arith}
use Rattle.std.proofs.lemmas.Result.{err_from_is_err_and}
use Rattle.xc_check.proofs.checker.Checker.take_lines.Goals as goal

pub returns-in_err-take_line-clause-fault : goal.returns-in_err-take_line-clause-fault
returns-in_err-take_line-clause-fault c =
    let so_far = c.loop-rest.invariant in
    let p = err_from_is_err_and c.from_residual.result c.from_residual.ensures.1 in
    let first = c.in_err-take_line.ensures.fault _ so_far.done _ _ refl
    (omega (arith, so_far.count, c.saturating_add-lines.ensures)) (rw c.cut_line.ensures.lines at so_far.progress) in
    let fault = c.in_err-take_line.field-0.0 in grind arith
