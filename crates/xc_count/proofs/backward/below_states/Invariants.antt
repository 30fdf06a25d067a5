use Rattle.std.proofs.Common.{◌≡◌, map, take}
use Rattle.xc_count.specs.inner.Passed.{AreMore, taken_here}
use Rattle.xc_count.specs.inner.Worth.{key_below, worth_by}
use Rattle.xc_count.proofs.backward.below_states.Given as goal

abbrev pub invariant-loop-state : goal.invariant-loop-state
invariant-loop-state l = record {
  below : l.below.items ≡ map (λ s. key_below l.problem.puzzle l.plan l.kept.step.from s.key.items)
      (take l.state-index l.kept.layer.states.items);
  counts : AreMore (λ x. worth_by (taken_here l.problem.puzzle l.plan l.kept.step x)
      (take l.state-index l.kept.layer.states.items)) l.initial.counts.items l.counts.items;
}
