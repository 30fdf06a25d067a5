use Rattle.std.proofs.Common.{arith, ◌≡◌, ◌<◌, ◌+◌, ◌∙◌, Some, ap, length, refl, subst, sym}
use Rattle.xc_count.specs.inner.Passed.{left_worth, worth_passed}
use Rattle.xc_count.specs.inner.Worth.{EachKey, holds_first, key_below, worth}
use Rattle.xc_count.proofs.Passed.{covers_left, ends_worth, layer_below}
use Rattle.xc_count.proofs.left.count_from.Goals as goal

pub loop-place-init : goal.loop-place-init
loop-place-init c =
    let p = c.args.problem.now.puzzle in
    let plan = c.args.plan.now in
    let start = c.args.start in
    record {
      worth = c.in_ok-layer.ensures.worth (key_below p plan start.from);
      held = c.in_ok-layer.ensures.keys (holds_first plan start.place start.from) c.requires.held;
      same = refl;
    }

pub loop-place-preserved : goal.loop-place-preserved
loop-place-preserved c =
    let p = c.args.problem.now.puzzle in
    let plan = c.args.plan.now in
    let step = c.step-step.result in
    let is = c.step-step.ensures in
    let ss = c.loop-place.layer.states.items in
    let within : step.place < length plan.order.items = omega (arith, is.place) in
    let held : EachKey (holds_first plan step.place step.from) ss =
    subst (λ k. EachKey (holds_first plan k step.from) ss) (sym is.place)
    (subst (λ f. EachKey (holds_first plan c.loop-place.place f) ss) (sym is.from) c.loop-place.invariant.held) in
    record {
      worth = c.in_ok-layer-2.ensures.worth (worth_passed covers_left p plan step)
          (left_worth covers_left p plan step.next) (covers_left, refl, refl)
          ∙ layer_below p plan c.requires.plan c.requires.once c.requires.valid step within ss held
          ∙ ap (λ f. worth p plan f ss) is.from ∙ c.loop-place.invariant.worth;
      held = subst (λ k. EachKey (holds_first plan (k + 1) step.next) c.in_ok-layer-2.layer.states.items) is.place
          c.in_ok-layer-2.ensures.makes;
      same =
          let one : Some c.pass.new.beside.puzzle ≡ Some c.loop-place.rival.puzzle = c.pass.ensures.same in
          let two : c.pass.new.beside.puzzle ≡ c.loop-place.rival.puzzle = cc in
          two ∙ c.loop-place.invariant.same;
    }

pub returns-clause-count : goal.returns-clause-count
returns-clause-count c =
    let p = c.args.problem.now.puzzle in
    let plan = c.args.plan.now in
    let ss = c.loop-place.layer.states.items in
    let last : c.loop-place.place ≡ length plan.order.items = omega arith in
    let held = subst (λ k. EachKey (holds_first plan k c.loop-place.from) ss) last c.loop-place.invariant.held in
    c.in_ok-total.ensures
    ∙ sym (ends_worth p plan c.requires.plan c.requires.once c.requires.valid c.loop-place.from ss held)
    ∙ c.loop-place.invariant.worth
