use Rattle.std.proofs.Common.{append_assoc}
use Rattle.xc_list.proofs.OutputLemmas.{options_left}
use Rattle.std.proofs.lemmas.Result.{IfOk-from_err}
use Rattle.xc_list.proofs.bodies.items_of_first_uses.Goals as goal

pub loop-o-preserved : goal.loop-o-preserved
loop-o-preserved c =
    let so = rw (options_left _ c.loop-o.o _ c.option.ensures.value) at c.loop-o.invariant in
    rw (c.in_ok-add_first.ensures, append_assoc) so

pub returns-in_err-add_first : goal.returns-in_err-add_first
returns-in_err-add_first c = IfOk-from_err _ _ c.from_residual-in_err-add_first.ensures.0
