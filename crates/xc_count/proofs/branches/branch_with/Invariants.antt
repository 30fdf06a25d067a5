use Rattle.std.proofs.Common.{◌≡◌, ◌≤◌, ◌+◌, drop, length}
use Rattle.xc_input.specs.Problem.{numbered_get}
use Rattle.xc_count.specs.inner.Numbered.{solution_at}
use Rattle.xc_count.specs.inner.Worth.{says}
use Rattle.xc_count.proofs.ByNumber.{members_with, that_agree}
use Rattle.xc_count.proofs.branches.branch_with.Given as goal

abbrev pub invariant-loop-place : goal.invariant-loop-place
invariant-loop-place l = record {
  solution : solution_at l.problem.puzzle l.plan l.key l.initial.number
      ≡ numbered_get (members_with l.problem.puzzle (says l.plan 0 l.key) l.fork.0 l.fork.1 (l.k + 1)
      (drop l.place l.options)) l.number;
  few : l.k ≤ l.place;
  ahead : l.k + length (that_agree l.problem.puzzle (says l.plan 0 l.key) (drop l.place l.options)) ≡ l.fork.1;
  same : l.rival.puzzle ≡ l.initial.rival.puzzle;
}
