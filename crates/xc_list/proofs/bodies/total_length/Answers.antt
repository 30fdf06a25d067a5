use Rattle.std.proofs.Common.{arith, ◌≡◌, ◌+◌, drop, length, length-append}
use Rattle.std.specs.Prelude.{flat_map}
use Rattle.xc_list.specs.inner.Writing.{uses_text}
use Rattle.xc_list.proofs.OutputLemmas.{options_left}
use Rattle.xc_list.proofs.bodies.total_length.Goals as goal

pub loop-o-preserved : goal.loop-o-preserved
loop-o-preserved c =
    let text = uses_text c.args.problem.now in
    let os = c.args.problem.now.puzzle.options in
    let more : length (flat_map text (drop c.loop-o.o os)) ≡ length (text c.option.result.now)
    + length (flat_map text (drop (c.loop-o.o + 1) os)) =
    rw (options_left os c.loop-o.o _ c.option.ensures.value) (length-append _ _) in
    omega (arith, c.option_length.ensures, c.saturating_add-total.ensures)
