use Rattle.std.proofs.Common.{◌≡◌}
use Rattle.xc_count.specs.inner.Worth.{EachKey, holds_first, key_below, worth}
use Rattle.xc_count.proofs.left.count_from.Given as goal

abbrev pub invariant-loop-place : goal.invariant-loop-place
invariant-loop-place l = record {
  worth : worth l.problem.puzzle l.plan l.from l.layer.states.items
      ≡ key_below l.problem.puzzle l.plan l.start.from l.start.key.now;
  held : EachKey (holds_first l.plan l.place l.from) l.layer.states.items;
  same : l.rival.puzzle ≡ l.initial.rival.puzzle;
}
