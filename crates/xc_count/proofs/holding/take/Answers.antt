-- `is` says what the marked key says of each item: what the state's key said, with the uses of the option held
-- (`taken_says`). So it holds the items up to the step's (`held_taken`), also without its front (`held_moved`), and it
-- leaves what the state leaves once the option is taken (`left_moved`, `left_taken`). Both clauses are then what `add`
-- says of the layer; an option that doesn't fit adds nothing.
use Rattle.std.proofs.Common.{ℕ, arith, ◌≡◌, ◌+◌, ◌*◌, ◌∙◌, ◌++◌, [], ap, ap₂, true}
use Rattle.std.proofs.lemmas.Result.{on_ok_weaker}
use Rattle.std.specs.Prelude.{unwrap_or}
use Rattle.xc_input.specs.Problem.{IsItem, uses_of}
use Rattle.xc_search.specs.Listing.{Residual}
use Rattle.xc_count.specs.inner.Held.{agree, holding_uses}
use Rattle.xc_count.specs.inner.Keys.{held_in}
use Rattle.xc_count.specs.inner.Passed.{left_worth, worth_left, worth_taken}
use Rattle.xc_count.specs.inner.Worth.{holds_first, says}
use Rattle.xc_count.proofs.PlanLemmas.{taken_says, held_taken, held_moved, left_moved, left_taken}
use Rattle.xc_count.proofs.holding.take.Goals as goal

pub returns-clause-held : goal.returns-clause-held
returns-clause-held c =
    let p = c.args.problem.now.puzzle in
    let plan = c.args.plan.now in
    let step = c.args.step in
    let key = c.args.state.now.key.items in
    let marked = c.as_slice-3.result.now in
    let us = c.option-uses.result.now in
    let uses : uses_of p c.args.option ≡ us = ap (λ o. unwrap_or o []) c.option-uses.ensures.value in
    let copied = c.in_ok-extend_from_slice.ensures.items
    ∙ ap₂ (λ a b. a ++ b) c.clear.ensures.items c.as_slice-2.ensures.value in
    let is : (i : ℕ) → IsItem p i → says plan step.from marked i ≡ holding_uses us (says plan step.from key) i =
    taken_says p plan c.requires.plan step c.requires.step key c.as_slice-ranks.result.now _ c.mark_uses.new.key.items
    marked us c.as_slice-ranks.ensures.value copied c.as_slice-3.ensures.value c.in_ok-mark_uses.ensures.held in
    let held : holds_first plan (step.place + 1) step.from marked ≡ true =
    held_taken p plan c.requires.plan step c.requires.step key marked c.args.option us uses c.requires.held
    c.requires.option is in
    on_ok_weaker c.add_ways.result (λ kept others. kept (holds_first plan (step.place + 1) step.next) others
    (ap (holds_first plan (step.place + 1) step.next) c.without_first-rest.ensures
    ∙ held_moved p plan c.requires.plan step c.requires.step marked held)) c.add_ways.ensures.keys

pub returns-clause-left : goal.returns-clause-left
returns-clause-left c =
    let p = c.args.problem.now.puzzle in
    let plan = c.args.plan.now in
    let step = c.args.step in
    let key = c.args.state.now.key.items in
    let marked = c.as_slice-3.result.now in
    let us = c.option-uses.result.now in
    let uses : uses_of p c.args.option ≡ us = ap (λ o. unwrap_or o []) c.option-uses.ensures.value in
    let agreed : c.agree_counting-fits.result ≡ true = grind arith in
    let test : c.agree_counting-fits.result ≡ agree (says plan step.from key) us = c.agree_counting-fits.ensures
    ∙ ap₂ (λ r k. agree (held_in r step.from k) us) c.as_slice-ranks.ensures.value c.as_slice.ensures.value in
    let copied = c.in_ok-extend_from_slice.ensures.items
    ∙ ap₂ (λ a b. a ++ b) c.clear.ensures.items c.as_slice-2.ensures.value in
    let is : (i : ℕ) → IsItem p i → says plan step.from marked i ≡ holding_uses us (says plan step.from key) i =
    taken_says p plan c.requires.plan step c.requires.step key c.as_slice-ranks.result.now _ c.mark_uses.new.key.items
    marked us c.as_slice-ranks.ensures.value copied c.as_slice-3.ensures.value c.in_ok-mark_uses.ensures.held in
    let held : holds_first plan (step.place + 1) step.from marked ≡ true =
    held_taken p plan c.requires.plan step c.requires.step key marked c.args.option us uses c.requires.held
    c.requires.option is in
    let valid = c.option-uses.ensures.whole.valid in
    let same : (h : Residual → ℕ) → left_worth h p plan step.next c.without_first-rest.result.now
    ≡ worth_taken h p (says plan step.from key) c.args.option =
    λ h. ap (left_worth h p plan step.next) c.without_first-rest.ensures
    ∙ ap h (left_moved p plan c.requires.plan step c.requires.step marked valid held)
    ∙ left_taken p plan c.requires.plan step c.requires.step key h valid marked c.args.option us
    c.agree_counting-fits.result uses test agreed is in
    on_ok_weaker c.add_ways.result (λ more h. more (left_worth h p plan step.next)
    ∙ ap (λ n. worth_left h p plan step.next c.args.layer.now.states.items + c.args.state.now.worth * n) (same h))
    c.add_ways.ensures.worth
