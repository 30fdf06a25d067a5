use Rattle.std.proofs.Common.{arith, ◌+◌, ◌<◌}
use Rattle.xc_input.specs.Problem.{option_count}
use Rattle.xc_moves.proofs.PlaceLemmas.{option_fits, uses_here, option_between}
use Rattle.xc_moves.proofs.places.number_at.Goals as goal

pub returns-then-place-spacer : goal.returns-then-place-spacer
returns-then-place-spacer c = λ i x u.
    let p = c.args.problem.now.puzzle in
    let o = c.loop-before.before in
    let within : o < option_count p = omega (arith, c.options-before-end.ensures.value, c.loop-before-test.true) in
    let found = uses_here p (o + 1) _ c.option.ensures.value in
    let fits = option_fits p o _ c.option.ensures.whole.limits within found in
    grind (arith, option_between p i x c.args.place o u)
