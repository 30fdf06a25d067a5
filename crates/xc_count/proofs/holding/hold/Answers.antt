-- `mark` reads the mark of the step's item as what the key says of it. If the item is held, the key without its front
-- leaves the same problem (`holds_next`, `left_moved`), and its worth goes to the next layer as it is. If it is free,
-- `split` adds what the key becomes by each of the item's options, which is the worth passed on by definition.
use Rattle.std.proofs.Common.{arith, ◌≡◌, ◌+◌, ◌*◌, ◌-◌, ◌∙◌, ap, ap₂, sym, subst, cond, drop, get_or, Some, true}
use Rattle.std.specs.Prelude.{is_some, sum_by}
use Rattle.std.proofs.lemmas.List.{get_or_default}
use Rattle.std.proofs.lemmas.Result.{on_ok_weaker}
use Rattle.xc_input.specs.Problem.{IsItem}
use Rattle.xc_count.specs.inner.Held.{left_by}
use Rattle.xc_count.specs.inner.Keys.{held_in, mark_says}
use Rattle.xc_count.specs.inner.Passed.{left_worth, worth_left, worth_passed, worth_taken}
use Rattle.xc_count.specs.inner.Plans.{options_with}
use Rattle.xc_count.specs.inner.Worth.{holds_first, says}
use Rattle.xc_count.proofs.HolderLemmas.{item_of}
use Rattle.xc_count.proofs.Passed.{marked, unmarked}
use Rattle.xc_count.proofs.PlanLemmas.{held_moved, holds_next, left_moved, order_at}
use Rattle.xc_count.proofs.holding.hold.Goals as goal

pub returns-then-mark_of-gt0-clause-left : goal.returns-then-mark_of-gt0-clause-left
returns-then-mark_of-gt0-clause-left g c = λ h.
    let p = c.args.problem.now.puzzle in
    let plan = c.args.plan.now in
    let step = c.args.step in
    let key = c.args.state.now.key.items in
    let i = get_or plan.order.items step.place 0 in
    let s = says plan step.from key in
    let mark : mark_says (Some c.mark_of.result) ≡ s i = c.mark_of.ensures
    ∙ ap₂ (λ r k. held_in r step.from k c.index-item.result.now) c.as_slice.ensures.value c.as_slice-key.ensures.value
    ∙ ap s (c.index-item.ensures
    ∙ get_or_default plan.order.items step.place c.index-item.result.now 0 c.requires.step.within) in
    let here : is_some (s i) ≡ true = marked c.mark_of.result (s i) mark (omega (arith, c.if-mark_of-gt0.true)) in
    let held = holds_next p plan c.requires.plan step c.requires.step key c.requires.held here in
    let same : left_worth h p plan step.next c.without_first.result.now ≡ worth_passed h p plan step key =
    ap (left_worth h p plan step.next)
    (c.without_first.ensures ∙ ap (drop (step.next - step.from)) c.as_slice-key.ensures.value)
    ∙ ap h (left_moved p plan c.requires.plan step c.requires.step key c.requires.valid held)
    ∙ sym (ap (λ b. cond b (h (left_by p s)) (sum_by (worth_taken h p s) (options_with p i))) here) in
    c.in_ok-add_ways.ensures.worth (left_worth h p plan step.next)
    ∙ ap (λ n. worth_left h p plan step.next c.args.layer.now.states.items + c.args.state.now.worth * n) same

pub returns-then-mark_of-gt0-clause-others : goal.returns-then-mark_of-gt0-clause-others
returns-then-mark_of-gt0-clause-others g c =
    let p = c.args.problem.now.puzzle in
    let plan = c.args.plan.now in
    let step = c.args.step in
    let key = c.args.state.now.key.items in
    let i = get_or plan.order.items step.place 0 in
    let s = says plan step.from key in
    let mark : mark_says (Some c.mark_of.result) ≡ s i = c.mark_of.ensures
    ∙ ap₂ (λ r k. held_in r step.from k c.index-item.result.now) c.as_slice.ensures.value c.as_slice-key.ensures.value
    ∙ ap s (c.index-item.ensures
    ∙ get_or_default plan.order.items step.place c.index-item.result.now 0 c.requires.step.within) in
    let here : is_some (s i) ≡ true = marked c.mark_of.result (s i) mark (omega (arith, c.if-mark_of-gt0.true)) in
    c.in_ok-add_ways.ensures.keys (holds_first plan (step.place + 1) step.next) c.requires.others
    (ap (holds_first plan (step.place + 1) step.next)
    (c.without_first.ensures ∙ ap (drop (step.next - step.from)) c.as_slice-key.ensures.value)
    ∙ held_moved p plan c.requires.plan step c.requires.step key
    (holds_next p plan c.requires.plan step c.requires.step key c.requires.held here))

pub returns-clause-left : goal.returns-clause-left
returns-clause-left g c =
    let p = c.args.problem.now.puzzle in
    let plan = c.args.plan.now in
    let step = c.args.step in
    let key = c.args.state.now.key.items in
    let i = get_or plan.order.items step.place 0 in
    let s = says plan step.from key in
    let item = c.index-item.ensures
    ∙ get_or_default plan.order.items step.place c.index-item.result.now 0 c.requires.step.within in
    let mark : mark_says (Some c.mark_of.result) ≡ s i = c.mark_of.ensures
    ∙ ap₂ (λ r k. held_in r step.from k c.index-item.result.now) c.as_slice.ensures.value c.as_slice-key.ensures.value
    ∙ ap s item in
    let free = unmarked c.mark_of.result (s i) mark (omega (arith, c.if-mark_of-gt0.false)) in
    let primary = order_at p plan c.requires.plan step.place c.requires.step.within in
    let known : IsItem p c.index-item.result.now = subst (IsItem p) (sym item) (item_of p i primary) in
    let options = c.options_of-options.ensures p c.requires.plan known ∙ ap (options_with p) item in
    on_ok_weaker c.split.result (λ left h. left h
    ∙ ap (λ n. worth_left h p plan step.next c.args.layer.now.states.items + c.args.state.now.worth * n)
    (ap (sum_by (worth_taken h p s)) options
    ∙ sym (ap (λ o. cond (is_some o) (h (left_by p s)) (sum_by (worth_taken h p s) (options_with p i))) free)))
    c.split.ensures.left
