use Rattle.std.proofs.Common.{arith}
use Rattle.std.proofs.lemmas.Bool.Decides.{nat_tests}
use Rattle.xc_least.specs.inner.Regions.{newest, surplus_at}
use Rattle.xc_least.proofs.RegionLemmas.{cut_few}
use Rattle.xc_least.proofs.lost.are_too_few.Goals as goal

pub returns : goal.returns
returns c = λ e b at low.
    let p = c.args.problem.now.puzzle in
    let f = surplus_at c.args.surplus.now in
    let ds = newest c.args.decided.now.steps.items in
    cut_few p f c.args.gap ds c.args.item b c.loop-place.place c.loop-place.left at (grind (arith, nat_tests, e, low))
    (omega arith) c.loop-place.invariant.count
