use Rattle.std.proofs.Common.{arith, ◌≡◌, ap, length}
use Rattle.xc_list.proofs.OutputLemmas.{laid_more}
use Rattle.xc_list.proofs.bodies.lay_out_option.Goals as goal

pub returns-in-Ok-push : goal.returns-in-Ok-push
returns-in-Ok-push c = λ os laid.
    let same : c.bytes.result.now ≡ c.write_uses.new.sink.bytes.items = cc c.bytes.ensures in
    rw c.in-Ok-push.ensures.items (laid_more c.args.problem.now os c.args.uses.now _ _ _ _ laid c.in-Ok.ensures.whole
    (omega (arith, ap length same, c.in-Ok-try_from.ensures)))
