use Rattle.std.proofs.Common.{arith, ◌+◌, to_z, of_z, w64}
use Rattle.std.proofs.lemmas.Int.{ints}
use Rattle.xc_least.specs.inner.Prices.{over_at, under_at}
use Rattle.xc_least.proofs.PriceLemmas.{next, over_known, pushed, under_known}
use Rattle.xc_least.proofs.priced.surpluses_of.Goals as goal

pub loop-option-preserved : goal.loop-option-preserved
loop-option-preserved c =
    let p = c.args.problem.now.puzzle in
    let costs = c.args.costs.now in
    let ws = c.args.prices.now in
    let k = c.loop-option.option in
    let z = to_z w64 (of_z w64 c.cost_at-cost.result) in
    let over = over_known p costs ws c.in-Some.sides.over c.items-items.result z c.uses_at.result.now (k + 1)
    c.in-Some.ensures.over c.items-items.ensures.value (omega (arith, ints, c.cost_at-cost.ensures))
    c.uses_at.ensures.value in
    let under = under_known p costs ws c.in-Some.sides.under c.items-items.result z c.uses_at.result.now (k + 1)
    c.in-Some.ensures.under c.items-items.ensures.value (omega (arith, ints, c.cost_at-cost.ensures))
    c.uses_at.ensures.value in
    let all = pushed (over_at p costs ws) c.loop-option.over.items c.push.new.self.items c.in-Some.sides.over k
    c.in_ok-push.ensures.items c.loop-option.invariant.many c.loop-option.invariant.over over in
    record {
      within = omega arith;
      many = all.0;
      over = all.1;
      under = omega (
        arith,
        next (under_at p costs ws) k,
        under,
        c.in-Some-checked_add.ensures,
        c.loop-option.invariant.under,
      );
    }
