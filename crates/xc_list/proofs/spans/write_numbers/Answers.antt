use Rattle.xc_list.specs.inner.Writing.{dotted}
use Rattle.xc_text.proofs.SinkLemmas.{loop_failed}
use Rattle.xc_list.proofs.spans.write_numbers.Goals as goal

pub returns-in_err-write_dotted : goal.returns-in_err-write_dotted
returns-in_err-write_dotted g c =
    loop_failed dotted _ _ 0 _ c.from_residual.ensures.0 c.loop-n-test.true c.loop-n.invariant
    c.in_err-write_dotted.ensures
