use Rattle.std.proofs.Common.{arith, sym, subst, []}
use Rattle.xc_text.specs.Texts.{Writes}
use Rattle.xc_text.proofs.SinkLemmas.{front_more, then_writes}
use Rattle.xc_text.proofs.write.write_all.Goals as goal

pub returns-in-Ok-2 : goal.returns-in-Ok-2
returns-in-Ok-2 g c =
    subst (Writes _ _ c.write_rest.result) (sym (front_more [] c.args.bytes.now c.in-Ok.n c.in-Ok.ensures.bound))
    (grind (arith, then_writes))
