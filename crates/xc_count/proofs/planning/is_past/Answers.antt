use Rattle.std.proofs.Common.{arith, eqb-true}
use Rattle.xc_count.proofs.PlanLemmas.{past_at}
use Rattle.xc_count.proofs.planning.is_past.Goals as goal

pub returns : goal.returns
returns c = λ same. past_at c.args.plan.now.order.items c.args.past _ c.index.result.now c.args.item (omega arith)
    (omega arith) c.index.ensures (eqb-true _ _ same)
