use Rattle.std.proofs.Common.{None}
use Rattle.xc_text.proofs.SinkLemmas.{loop_failed}
use Rattle.xc_list.specs.Output.{choice_text}
use Rattle.xc_list.proofs.print.write_lines.Goals as goal

pub returns-in_err-write_choice : goal.returns-in_err-write_choice
returns-in_err-write_choice g c =
    loop_failed (choice_text c.args.bodies.now) _ _ (record { item = 0; option = None; k = 0; n = 0 }) _
    c.from_residual.ensures.0 c.loop-choice-test.true c.loop-choice.invariant c.in_err-write_choice.ensures
