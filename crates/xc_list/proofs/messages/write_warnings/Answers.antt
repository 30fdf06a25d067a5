use Rattle.xc_list.specs.Messages.{warning_text}
use Rattle.xc_text.proofs.SinkLemmas.{flat_map-take-more, loop_failed, then_took}
use Rattle.xc_list.proofs.messages.write_warnings.Goals as goal

pub returns-in_err-write_warning : goal.returns-in_err-write_warning
returns-in_err-write_warning g c =
    loop_failed warning_text _ _ 0 _ c.from_residual.ensures.0 c.loop-line-test.true c.loop-line.invariant
    c.in_err-write_warning.ensures

pub loop-line-preserved : goal.loop-line-preserved
loop-line-preserved g c =
    rw (flat_map-take-more warning_text _ _ 0 c.loop-line-test.true)
    (then_took c.loop-line.invariant c.in_ok-write_warning.ensures)
