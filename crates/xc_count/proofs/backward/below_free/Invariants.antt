use Rattle.std.proofs.Common.{◌≡◌, ◌+◌, ◌*◌, drop, take}
use Rattle.std.specs.Prelude.{sum_by}
use Rattle.xc_count.specs.inner.Passed.{AreMore, with_same}
use Rattle.xc_count.specs.inner.Worth.{key_below, says, with_number}
use Rattle.xc_count.proofs.backward.below_free.Given as goal

abbrev pub invariant-loop-k : goal.invariant-loop-k
invariant-loop-k l = record {
  sum : l.sum + sum_by (with_number l.problem.puzzle (says l.plan l.step.from l.state.key.items)) (drop l.k l.options)
      ≡ key_below l.problem.puzzle l.plan l.step.from l.state.key.items;
  counts : AreMore (λ x. l.state.worth
      * sum_by (with_same l.problem.puzzle (says l.plan l.step.from l.state.key.items) x) (take l.k l.options))
      l.initial.counts.items l.counts.items;
}
