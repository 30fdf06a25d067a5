use Rattle.xc_text.proofs.SinkLemmas.{loop_failed}
use Rattle.xc_list.specs.inner.Writing.{use_text}
use Rattle.xc_list.proofs.uses.write_uses.Goals as goal

pub returns-in_err-write_use : goal.returns-in_err-write_use
returns-in_err-write_use g c =
    loop_failed (use_text c.args.problem.now) _ _ (record { item = 0; colour = 0 }) _ c.from_residual.ensures.0
    c.loop-u-test.true c.loop-u.invariant c.in_err-write_use.ensures
