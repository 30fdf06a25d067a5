use Rattle.std.proofs.Common.{arith, ◌≡◌, ◌+◌, ◌*◌, ◌∙◌, ap, sym, refl, get_or, take, map, subst}
use Rattle.std.proofs.lemmas.List.{take_all}
use Rattle.std.proofs.lemmas.List.Sums.{sum_by_more}
use Rattle.xc_count.specs.inner.Worth.{CountState}
use Rattle.xc_count.specs.inner.Passed.{AreMore, taken_here}
use Rattle.xc_count.specs.inner.Worth.{key_below, worth_by}
use Rattle.xc_count.proofs.Passed.{map_pushed, more_none, more_then}
use Rattle.xc_count.proofs.backward.below_states.Goals as goal

pub loop-state-init : goal.loop-state-init
loop-state-init c = record {
  below = c.new-below.ensures.items;
  counts = more_none (λ x. worth_by (taken_here c.args.problem.now.puzzle c.args.plan.now c.args.kept.now.step x)
      (take 0 c.args.kept.now.layer.states.items)) c.args.counts.now.items c.args.counts.now.items refl (λ x. refl);
}

pub loop-state-preserved : goal.loop-state-preserved
loop-state-preserved c =
    let p = c.args.problem.now.puzzle in
    let plan = c.args.plan.now in
    let step = c.args.kept.now.step in
    let ss = c.args.kept.now.layer.states.items in
    let k = c.loop-state.state-index in
    let s = c.state-item.result in
    let at : s ≡ get_or ss k s = c.state-item.is ∙ ap (λ ts. get_or ts k s) c.deref-state-items.ensures.value in
    record {
      below = map_pushed (λ (t : CountState). key_below p plan step.from t.key.items) ss c.loop-state.below.items
          c.push.new.self.items k c.in_ok-covers.covers s (omega arith) c.loop-state.invariant.below
          (c.in_ok-covers.ensures.below ∙ ap (λ (t : CountState). key_below p plan step.from t.key.items) at)
          c.in_ok-push.ensures.items;
      counts = more_then (λ x. worth_by (taken_here p plan step x) (take k ss))
          (λ x. s.worth * taken_here p plan step x s.key.items)
          (λ x. worth_by (taken_here p plan step x) (take (k + 1) ss)) c.args.counts.now.items c.loop-state.counts.items
          c.below_state.new.counts.items c.loop-state.invariant.counts c.in_ok-covers.ensures.counts
          (λ x.
          let f = λ (t : CountState). t.worth * taken_here p plan step x t.key.items in
          let more = sum_by_more f ss k s (omega arith) in
          let here : f (get_or ss k s) ≡ s.worth * taken_here p plan step x s.key.items = ap f (sym at) in
          omega (arith, more, here));
    }

pub returns-clause-below : goal.returns-clause-below
returns-clause-below c = c.loop-state.invariant.below
    ∙ ap (map (λ (t : CountState).
    key_below c.args.problem.now.puzzle c.args.plan.now c.args.kept.now.step.from t.key.items))
    (take_all c.loop-state.state-index c.args.kept.now.layer.states.items (omega arith))

pub returns-clause-counts : goal.returns-clause-counts
returns-clause-counts c = subst (λ ss. AreMore (λ x.
    worth_by (taken_here c.args.problem.now.puzzle c.args.plan.now c.args.kept.now.step x) ss) c.args.counts.now.items
    c.loop-state.counts.items) (take_all c.loop-state.state-index c.args.kept.now.layer.states.items (omega arith))
    c.loop-state.invariant.counts
