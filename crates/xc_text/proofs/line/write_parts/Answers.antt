use Rattle.xc_text.proofs.SinkLemmas.{loop_failed}
use Rattle.xc_text.proofs.line.write_parts.Goals as goal

pub returns-in_err-write_all : goal.returns-in_err-write_all
returns-in_err-write_all g c =
    loop_failed _ _ _ _ _ c.from_residual.ensures.0 c.loop-part-test.true c.loop-part.invariant
    c.in_err-write_all.ensures
