use Rattle.std.proofs.Common.{false, subst}
use Rattle.xc_search.specs.inner.Spanning.{Reaches}
use Rattle.xc_search.proofs.SpanSteps.{reaches_settled}
use Rattle.xc_search.proofs.spanning.reach.Goals as goal

pub returns-then-reach_early : goal.returns-then-reach_early
returns-then-reach_early g c =
    reaches_settled (subst (Reaches false 0 _ _ _ _ _) c.if-reach_early.true c.reach_early.ensures) c.settle.ensures
