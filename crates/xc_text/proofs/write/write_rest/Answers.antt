use Rattle.std.proofs.Common.{arith}
use Rattle.std.proofs.Common.{◌∙◌}
use Rattle.xc_text.proofs.SinkLemmas.{front_more, then_broke, then_took, failed}
use Rattle.xc_text.proofs.write.write_rest.Goals as goal

pub returns-in_err-n : goal.returns-in_err-n
returns-in_err-n g c = grind (arith, failed, then_broke)

pub loop-rest-preserved : goal.loop-rest-preserved
loop-rest-preserved g c =
    let inv = c.loop-rest.invariant in
    (_, inv.1 ∙ front_more _ _ _ c.in_ok-n.ensures.some.1, then_took inv.2 c.in_ok-n.ensures.text)
