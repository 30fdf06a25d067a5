use Rattle.std.proofs.Common.{◌≡◌, ◌<◌, ◌+◌, ◌∙◌, arith, ap, filter, refl, Some}
use Rattle.std.specs.Prelude.{option_map, is_none}
use Rattle.xc_search.specs.Listing.{branch_count, first_least}
use Rattle.xc_input.specs.Problem.{primary_count}
use Rattle.xc_count.specs.inner.Keys.{held_in, mark_says}
use Rattle.xc_count.specs.inner.Numbered.{left_by_key}
use Rattle.xc_count.specs.inner.Worth.{says}
use Rattle.xc_count.proofs.ByNumber.{all_items, counted, past_free, past_held}
use Rattle.xc_count.proofs.branches.branch_item.Goals as goal
use Rattle.xc_count.proofs.branches.branch_item.Goals.{then-mark_of-eq0, else-mark_of-eq0}

pub loop-i-init : goal.loop-i-init
loop-i-init c = refl

pub loop-i-preserved : goal.loop-i-preserved
loop-i-preserved c =
    let p = c.args.problem.now.puzzle in
    let s = says c.args.plan.now 0 c.args.key.now in
    let i = c.loop-i.i in
    let within : i < primary_count p = omega (arith, c.primary-i-end.ensures.value, c.loop-i-test.true) in
    let mark : mark_says (Some c.mark_of.result) ≡ s (i + 1) = c.mark_of.ensures
    ∙ ap (λ r. held_in r 0 c.args.key.now (i + 1)) c.as_slice.ensures.value in
    elim c.if-mark_of-eq0.branch [
      | then-mark_of-eq0 w ↦
          past_free p s i c.mark_of.result c.loop-i.best c.if-mark_of-eq0.best within mark c.requires.once
          w.options_left.result w.if-mark_of-eq0.true w.options_left.ensures c.loop-i.invariant
          (w.best-is ∙ w.fewer-best.ensures)
      | else-mark_of-eq0 w ↦
          past_held p s i c.mark_of.result c.loop-i.best c.if-mark_of-eq0.best within mark w.if-mark_of-eq0.false
          c.loop-i.invariant w.best-is
    ]

pub returns : goal.returns
returns c =
    let p = c.args.problem.now.puzzle in
    let s = says c.args.plan.now 0 c.args.key.now in
    let count = branch_count (left_by_key p c.args.plan.now c.args.key.now) in
    c.loop-i.invariant ∙ ap (λ ws. option_map (counted count) (first_least count (filter (λ w. is_none (s w.item)) ws)))
    (all_items p c.loop-i.i (omega (arith, c.primary-i-end.ensures.value, c.loop-i-test.false)))
