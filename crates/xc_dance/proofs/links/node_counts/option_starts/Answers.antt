use Rattle.std.proofs.Common.{arith}
use Rattle.std.proofs.lemmas.List.FromFn.{map-range_with_len_more}
use Rattle.xc_moves.specs.inner.Uses.{start_at}
use Rattle.xc_moves.proofs.PlaceLemmas.{OptionFits, option_fits, uses_here}
use Rattle.xc_dance.proofs.links.node_counts.option_starts.Goals.{After-option}
use Rattle.xc_dance.proofs.links.node_counts.option_starts.Goals as goal

-- the option has its place among the nodes
fits : (c : After-option) → OptionFits c.args.problem.now.puzzle c.loop-o.o c.option.result.now
fits c =
    let p = c.args.problem.now.puzzle in
    option_fits p c.loop-o.o c.option.result.now c.requires
    (omega (arith, c.loop-o-test.true, c.options-o-end.ensures.value)) (uses_here p _ _ c.option.ensures.value)

pub overflow_cast-start : goal.overflow_cast-start
overflow_cast-start c = grind (arith, fits (goal.at.overflow_cast-start c).After-option)

pub overflow_add-start-in-loop-o : goal.overflow_add-start-in-loop-o
overflow_add-start-in-loop-o c = grind (arith, fits (goal.at.overflow_add-start-in-loop-o c).After-option)

pub overflow_add-start-in-loop-o-2 : goal.overflow_add-start-in-loop-o-2
overflow_add-start-in-loop-o-2 c = grind (arith, fits (goal.at.overflow_add-start-in-loop-o-2 c).After-option)

pub loop-o-preserved : goal.loop-o-preserved
loop-o-preserved c =
    let fits = fits c in
    let more = map-range_with_len_more (start_at c.args.problem.now.puzzle) 0 c.loop-o.o c.loop-o.o (omega arith) in
    grind (arith, more, c.in_ok-push.ensures.items, fits.next)
