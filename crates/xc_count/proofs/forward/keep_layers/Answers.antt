-- The invariant: of each option, what the layers kept so far take of it and what the states of the last layer are still
-- worth (`worth_left`) are together its solutions; the keys hold the items before `place`; and the bytes are within the
-- bound. A step splits the worth of a layer into what it takes and what it passes on (`layer_parts`). Behind the last
-- item nothing is left to be worth (`layer_end`).
use Rattle.std.proofs.Common.{arith, ◌≡◌, ◌<◌, ◌+◌, ◌∙◌, ◌∷◌, ◌++◌, [], ap, length, refl, subst, sym}
use Rattle.std.specs.Prelude.{All, sum_by}
use Rattle.std.proofs.lemmas.List.Elements.{All-push}
use Rattle.std.proofs.lemmas.List.Sums.{sum_by_push}
use Rattle.xc_count.specs.Occurrences.{occurrences_of}
use Rattle.xc_count.specs.declared.kept.Kept.{Kept}
use Rattle.xc_count.specs.declared.plan.Step.{Step}
use Rattle.xc_count.specs.inner.Passed.{IsKept, left_worth, taken_by, taken_here, worth_left, worth_passed}
use Rattle.xc_count.specs.inner.Worth.{EachKey, holds_first, says, worth_by}
use Rattle.xc_count.proofs.Below.{all_left}
use Rattle.xc_count.proofs.Having.{having}
use Rattle.xc_count.proofs.KeyLemmas.{nothing_held}
use Rattle.xc_count.proofs.Passed.{layer_end, layer_parts}
use Rattle.xc_count.proofs.forward.keep_layers.Goals as goal

pub loop-place-init : goal.loop-place-init
loop-place-init c =
    let p = c.args.problem.now.puzzle in
    let plan = c.args.plan.now in
    let empty = c.new-kept.ensures.items in
    record {
      taken = λ x.
          let first : worth_left (having x) p plan 0 c.in_ok-layer.layer.states.items ≡ occurrences_of p x =
          c.in_ok-layer.ensures.worth (left_worth (having x) p plan 0)
          ∙ ap (having x) (all_left p (says plan 0 []) (nothing_held plan.ranking.ranks.items)) in
          let none : sum_by (taken_by p plan x) c.new-kept.result.items ≡ 0 = ap (sum_by (taken_by p plan x)) empty in
          omega (arith, first, none);
      kept = λ k d h.
          let none : length c.new-kept.result.items ≡ 0 = ap length empty in
          absurd (omega (arith, none, h));
      held = c.in_ok-layer.ensures.keys (holds_first plan 0 0) refl;
      room = let none : sum_by (λ (k : Kept). k.layer.bytes) c.new-kept.result.items ≡ 0 =
          ap (sum_by (λ (k : Kept). k.layer.bytes)) empty in omega (arith, none);
      within = c.in_ok-layer.ensures.room;
    }

pub loop-place-preserved : goal.loop-place-preserved
loop-place-preserved c =
    let p = c.args.problem.now.puzzle in
    let plan = c.args.plan.now in
    let layer = c.loop-place.layer in
    let step : Step = c.step-step.result in
    let one : Kept = record { layer = layer; step = step } in
    let pushed : c.push.new.self.items ≡ c.loop-place.kept.items ++ one ∷ [] = c.in_ok-push.ensures.items in
    let is_step = c.step-step.ensures in
    let within : step.place < length plan.order.items = omega (arith, is_step.place) in
    let held : EachKey (holds_first plan step.place step.from) layer.states.items =
    subst (λ k. EachKey (holds_first plan k step.from) layer.states.items) (sym is_step.place)
    (subst (λ f. EachKey (holds_first plan c.loop-place.place f) layer.states.items) (sym is_step.from)
    c.loop-place.invariant.held) in
    let is : IsKept p plan one = record { step = is_step.step p c.requires.plan; held = held } in
    record {
      taken = λ x.
          let push : sum_by (taken_by p plan x) c.push.new.self.items
          ≡ sum_by (taken_by p plan x) c.loop-place.kept.items
          + worth_by (taken_here p plan step x) layer.states.items =
          ap (sum_by (taken_by p plan x)) pushed ∙ sum_by_push (taken_by p plan x) c.loop-place.kept.items one in
          let parts = layer_parts p plan c.requires.plan c.requires.once c.requires.valid x step within
          layer.states.items in
          let next : worth_left (having x) p plan step.next c.in_ok-more.more.states.items
          ≡ worth_by (worth_passed (having x) p plan step) layer.states.items =
          c.in_ok-more.ensures.worth (having x) in
          let same = ap (λ f. worth_left (having x) p plan f layer.states.items) is_step.from in
          omega (arith, push, parts, next, same, c.loop-place.invariant.taken x);
      kept = subst (All (IsKept p plan)) (sym pushed)
          (All-push (IsKept p plan) c.loop-place.kept.items one c.loop-place.invariant.kept is);
      held = subst (λ k. EachKey (holds_first plan (k + 1) step.next) c.in_ok-more.more.states.items) is_step.place
          c.in_ok-more.ensures.held;
      room =
          let push : sum_by (λ (k : Kept). k.layer.bytes) c.push.new.self.items
          ≡ sum_by (λ (k : Kept). k.layer.bytes) c.loop-place.kept.items + layer.bytes =
          ap (sum_by (λ (k : Kept). k.layer.bytes)) pushed
          ∙ sum_by_push (λ (k : Kept). k.layer.bytes) c.loop-place.kept.items one in
          omega (arith, push, c.beside-room.ensures, c.loop-place.invariant.room, c.loop-place.invariant.within);
      within = c.in_ok-more.ensures.room;
    }

pub returns-clause-taken : goal.returns-clause-taken
returns-clause-taken c = λ x.
    let p = c.args.problem.now.puzzle in
    let plan = c.args.plan.now in
    let last : c.loop-place.place ≡ length plan.order.items = omega arith in
    let held = subst (λ k. EachKey (holds_first plan k c.loop-place.from) c.loop-place.layer.states.items) last
    c.loop-place.invariant.held in
    let none = layer_end p plan c.requires.plan c.requires.once c.requires.valid x c.loop-place.from
    c.loop-place.layer.states.items held in
    omega (arith, none, c.loop-place.invariant.taken x)
