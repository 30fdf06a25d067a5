use Rattle.std.proofs.Common.{arith}
use Rattle.std.proofs.lemmas.List.Elements.{recursion_from_All}
use Rattle.xc_input.proofs.TokenLemmas.{numbered_get-at}
use Rattle.xc_search.proofs.MoveLemmas.{counted_more, few_spends}
use Rattle.xc_search.proofs.counts.count_spends.Goals as goal

pub overflow_add-spends : goal.overflow_add-spends
overflow_add-spends c =
    let primary = c.primary-i-end.ensures in
    let few = few_spends c.args.problem.now.puzzle.bounds c.loop-i.i
    (recursion_from_All _ _ primary.whole.limits.bounds) in
    omega (arith, c.loop-i.invariant, few, primary.whole.limits.items, primary.value)

pub loop-i-preserved : goal.loop-i-preserved
loop-i-preserved c = grind (arith, counted_more, numbered_get-at)
