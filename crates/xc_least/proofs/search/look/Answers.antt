use Rattle.std.proofs.Common.{arith}
use Rattle.xc_least.specs.inner.Regions.{newest, surplus_at}
use Rattle.xc_least.proofs.RegionLemmas.{cut_spent}
use Rattle.xc_least.proofs.search.look.Goals as goal

pub returns-then-gap-spent-clause-cut : goal.returns-then-gap-spent-clause-cut
returns-then-gap-spent-clause-cut c = λ e.
    let f = surplus_at c.args.surplus.now in
    cut_spent c.args.problem.now.puzzle f c.args.gap (newest c.args.decided.now.steps.items)
    c.args.decided.now.place.items c.requires.kept.placed
    (omega (arith, c.if-gap-spent.true, c.spent.ensures f c.requires.kept.spent))
