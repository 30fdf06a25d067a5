use Rattle.std.proofs.Common.{arith, ◌≡◌, ◌<◌, ◌-◌, ◌+◌, ◌∙◌, ap, ap₂, sym, subst, subst₂}
use Rattle.std.proofs.Common.{drop, get_or, length, Some, true}
use Rattle.std.specs.Prelude.{is_some}
use Rattle.std.proofs.lemmas.List.{get_or_default}
use Rattle.xc_count.specs.inner.Keys.{held_in, mark_says}
use Rattle.xc_count.specs.inner.Plans.{IsStep}
use Rattle.xc_count.specs.inner.Worth.{holds_first, key_below, says}
use Rattle.xc_count.proofs.Passed.{marked}
use Rattle.xc_count.proofs.PlanLemmas.{held_moved, holds_next, key_moved}
use Rattle.xc_count.proofs.left.start_of.Goals as goal

-- the item was held, so the step leaves what its key left
pub loop-place-preserved : goal.loop-place-preserved
loop-place-preserved c =
    let p = c.args.problem.now.puzzle in
    let plan = c.args.plan.now in
    let step = c.step-step.result in
    let e = c.step-step.ensures in
    let key = c.loop-place.rest.now in
    let place = c.loop-place.place in
    let from = c.loop-place.from in
    let is : IsStep p plan step = e.step p c.requires.plan in
    let within : place < length plan.order.items = omega (arith, is.within, e.place) in
    let mark : mark_says (Some c.mark_of.result) ≡ says plan step.from key (get_or plan.order.items step.place 0) =
    c.mark_of.ensures
    ∙ ap (λ r. held_in r from key c.index.result.now) c.as_slice-ranks.ensures.value
    ∙ ap (says plan from key) (c.index.ensures ∙ get_or_default plan.order.items place c.index.result.now 0 within)
    ∙ ap₂ (λ k f. says plan f key (get_or plan.order.items k 0)) (sym e.place) (sym e.from) in
    let here : is_some (says plan step.from key (get_or plan.order.items step.place 0)) ≡ true =
    marked c.mark_of.result (says plan step.from key (get_or plan.order.items step.place 0)) mark
    (omega arith) in
    let first : holds_first plan step.place step.from key ≡ true =
    subst₂ (λ k f. holds_first plan k f key ≡ true) (sym e.place) (sym e.from) c.loop-place.invariant.held in
    let next = holds_next p plan c.requires.plan step is key first here in
    record {
      held = ap (holds_first plan (place + 1) step.next) c.without_first-rest.ensures
          ∙ subst (λ k. holds_first plan (k + 1) step.next (drop (step.next - step.from) key) ≡ true) e.place
          (held_moved p plan c.requires.plan step is key next);
      below = ap (key_below p plan step.next) c.without_first-rest.ensures
          ∙ key_moved p plan c.requires.plan step is key c.requires.valid next
          ∙ ap (λ f. key_below p plan f key) e.from
          ∙ c.loop-place.invariant.below;
    }
