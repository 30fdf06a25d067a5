use Rattle.xc_text.proofs.SinkLemmas.{loop_failed}
use Rattle.xc_none.proofs.cnf.write_literals.Goals as goal

pub returns-in_err-write_literal : goal.returns-in_err-write_literal
returns-in_err-write_literal g c =
    loop_failed _ _ _ _ _ c.from_residual.ensures.0 c.loop-literal-test.true c.loop-literal.invariant
    c.in_err-write_literal.ensures
