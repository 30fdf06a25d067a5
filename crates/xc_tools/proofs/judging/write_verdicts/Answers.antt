use Rattle.xc_text.proofs.SinkLemmas.{loop_failed}
use Rattle.xc_tools.proofs.judging.write_verdicts.Goals as goal

pub returns-in_err-write_verdict : goal.returns-in_err-write_verdict
returns-in_err-write_verdict g c =
    loop_failed _ _ _ _ _ c.from_residual.ensures.0 c.loop-verdict-test.true c.loop-verdict.invariant
    c.in_err-write_verdict.ensures
