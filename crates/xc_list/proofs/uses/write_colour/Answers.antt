use Rattle.std.proofs.Common.{arith, ◌<◌}
use Rattle.std.proofs.lemmas.Bool.Decides.{nat_tests}
use Rattle.xc_text.proofs.SinkLemmas.{then_writes}
use Rattle.xc_check.proofs.ClassLemmas.{colour_text-some}
use Rattle.xc_list.proofs.uses.write_colour.Goals as goal

pub returns : goal.returns
returns g c =
    let some : 0 < c.args.c = grind (arith, nat_tests, c.if-c-eq0.false) in rw (colour_text-some _ _ some)
    (rw (← c.colour_of.ensures)
    (then_writes _ _ c.write_all-2.result c.in_ok-write_all.ensures c.write_all-2.ensures))
