use Rattle.std.proofs.Common.{◌≡◌, true}
use Rattle.xc_count.specs.inner.Worth.{holds_first, key_below}
use Rattle.xc_count.proofs.left.start_of.Given as goal

abbrev pub invariant-loop-place : goal.invariant-loop-place
invariant-loop-place l = record {
  held : holds_first l.plan l.place l.from l.rest ≡ true;
  below : key_below l.problem.puzzle l.plan l.from l.rest ≡ key_below l.problem.puzzle l.plan 0 l.key;
}
