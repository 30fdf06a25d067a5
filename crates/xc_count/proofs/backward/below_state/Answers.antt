use Rattle.std.proofs.Common.{arith, ◌≡◌, ◌-◌, ◌*◌, ◌∙◌, ap, sym, subst, get_or, cond, drop, Some, true}
use Rattle.std.specs.Prelude.{is_some, sum_by}
use Rattle.std.proofs.lemmas.Grind.{common_steps}
use Rattle.std.proofs.lemmas.Result.{on_ok_weaker}
use Rattle.xc_input.specs.Problem.{IsItem}
use Rattle.xc_count.specs.inner.Keys.{mark_says}
use Rattle.xc_count.specs.inner.Passed.{step_item, taken_here, with_same}
use Rattle.xc_count.specs.inner.Plans.{options_with}
use Rattle.xc_count.specs.inner.Worth.{key_below, says}
use Rattle.xc_count.proofs.HolderLemmas.{item_of}
use Rattle.xc_count.proofs.Passed.{marked, more_same, unmarked}
use Rattle.xc_count.proofs.PlanLemmas.{holds_next, key_moved, order_at}
use Rattle.xc_count.proofs.backward.below_state.Goals as goal

pub returns-clause-counts : goal.returns-clause-counts
returns-clause-counts c =
    let p = c.args.problem.now.puzzle in
    let plan = c.args.plan.now in
    let step = c.args.step in
    let key = c.args.state.now.key.items in
    let mark : mark_says (Some c.mark_of.result) ≡ says plan step.from key (get_or plan.order.items step.place 0) =
    grind (arith, common_steps) in
    let free = unmarked c.mark_of.result (says plan step.from key (step_item plan step)) mark (omega arith) in
    let item : c.index-item.result.now ≡ step_item plan step = grind (arith, common_steps) in
    let primary = order_at p plan c.requires.plan step.place c.requires.step.within in
    let known : IsItem p c.index-item.result.now =
    subst (IsItem p) (sym item) (item_of p (step_item plan step) primary) in
    let options : c.options_of-options.result.now ≡ options_with p (step_item plan step) =
    c.options_of-options.ensures p c.requires.plan known ∙ ap (options_with p) item in
    on_ok_weaker c.below_free.result (λ more. more_same
    (λ x. c.args.state.now.worth * sum_by (with_same p (says plan step.from key) x) c.options_of-options.result.now)
    (λ x. c.args.state.now.worth * taken_here p plan step x key) _ _ more
    (λ x. ap (λ os. c.args.state.now.worth * sum_by (with_same p (says plan step.from key) x) os) options
    ∙ sym (ap (λ o. c.args.state.now.worth * cond (is_some o) 0
    (sum_by (with_same p (says plan step.from key) x) (options_with p (step_item plan step)))) free)))
    c.below_free.ensures.counts

pub returns-then-mark_of-gt0-clause-below : goal.returns-then-mark_of-gt0-clause-below
returns-then-mark_of-gt0-clause-below c =
    let p = c.args.problem.now.puzzle in
    let plan = c.args.plan.now in
    let step = c.args.step in
    let key = c.args.state.now.key.items in
    let ahead = c.args.ahead.now in
    let s = says plan step.from key in
    let mark : mark_says (Some c.mark_of.result) ≡ s (step_item plan step) = grind (arith, common_steps) in
    let here : is_some (s (step_item plan step)) ≡ true =
    marked c.mark_of.result (s (step_item plan step)) mark (omega (arith, c.if-mark_of-gt0.true)) in
    let held = holds_next p plan c.requires.plan step c.requires.step key c.requires.held here in
    c.in_ok-clone.ensures.cases
    ∙ c.in_ok-below_key.ensures p plan c.requires.below
    ∙ ap (key_below p plan ahead.from) (c.without_first-rest.ensures
    ∙ ap (drop (step.next - step.from)) c.as_slice-key.ensures.value)
    ∙ ap (λ n. key_below p plan n (drop (step.next - step.from) key)) (sym c.requires.next)
    ∙ key_moved p plan c.requires.plan step c.requires.step key c.requires.valid held
