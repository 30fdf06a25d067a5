use Rattle.std.proofs.Common.{◌≡◌, ◌+◌, ◌≤◌, length, drop}
use Rattle.xc_count.specs.inner.Worth.{says}
use Rattle.xc_count.proofs.ByNumber.{that_agree}
use Rattle.xc_count.proofs.branches.options_left.Given as goal

abbrev pub invariant-loop-k : goal.invariant-loop-k
invariant-loop-k l = record {
  many : l.many + length (that_agree l.problem.puzzle (says l.plan 0 l.key) (drop l.k l.options))
      ≡ length (that_agree l.problem.puzzle (says l.plan 0 l.key) l.options);
  few : l.many ≤ l.k;
}
