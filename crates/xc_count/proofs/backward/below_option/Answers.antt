use Rattle.std.proofs.Common.{ℕ, arith, ◌≡◌, ◌-◌, ◌∙◌, ◌++◌, [], ap, sym, drop, true}
use Rattle.std.specs.Prelude.{unwrap_or}
use Rattle.xc_input.specs.Problem.{IsItem, uses_of}
use Rattle.xc_count.specs.inner.Held.{agree, holding_uses}
use Rattle.xc_count.specs.inner.Keys.{held_in}
use Rattle.xc_count.specs.inner.Worth.{key_below, says}
use Rattle.xc_count.proofs.PlanLemmas.{taken_says, held_taken, key_moved, below_taken}
use Rattle.xc_count.proofs.backward.below_option.Goals as goal

pub returns : goal.returns
returns c =
    let p = c.args.problem.now.puzzle in
    let plan = c.args.plan.now in
    let step = c.args.step in
    let key = c.args.key.now in
    let us = c.option-uses.result.now in
    let uses : uses_of p c.args.option ≡ us = ap (λ o. unwrap_or o []) c.option-uses.ensures.value in
    let agreed : c.do_agree.result ≡ true = grind arith in
    let test : c.do_agree.result ≡ agree (says plan step.from key) us = c.do_agree.ensures
    ∙ ap (λ r. agree (held_in r step.from key) us) c.as_slice-ranks.ensures.value in
    let copied = c.in_ok-extend_from_slice.ensures.items ∙ ap (λ a. a ++ key) c.clear.ensures.items in
    let marked = c.as_slice.result.now in
    let valid = c.option-uses.ensures.whole.valid in
    let is : (i : ℕ) → IsItem p i → says plan step.from marked i ≡ holding_uses us (says plan step.from key) i =
    taken_says p plan c.requires.plan step c.requires.step key c.as_slice-ranks.result.now _ c.mark_uses.new.key.items
    marked us c.as_slice-ranks.ensures.value copied c.as_slice.ensures.value c.in_ok-mark_uses.ensures.held in
    let held = held_taken p plan c.requires.plan step c.requires.step key marked c.args.option us uses c.requires.held
    c.requires.option is in
    c.in_ok-below_key.ensures p plan c.requires.below
    ∙ ap (key_below p plan c.args.ahead.now.from) c.without_first-rest.ensures
    ∙ ap (λ n. key_below p plan n (drop (step.next - step.from) marked)) (sym c.requires.next)
    ∙ key_moved p plan c.requires.plan step c.requires.step marked valid held
    ∙ below_taken p plan c.requires.plan step c.requires.step key valid marked c.args.option us c.do_agree.result uses
    test agreed is
