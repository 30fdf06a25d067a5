use Rattle.std.proofs.Common.{ℕ, ◌≡◌, ◌≤◌, true, drop, length}
use Rattle.xc_count.specs.inner.ByOption.{marks_in, may_take, taking}
use Rattle.xc_count.proofs.marks.take_uses.Given as goal

abbrev pub invariant-loop-place : goal.invariant-loop-place
invariant-loop-place l = record {
  taken : (i : ℕ) → marks_in l.taken.items i ≡ taking l.problem.puzzle (drop l.place l.uses) (marks_in l.key) i;
  may : may_take l.problem.puzzle (marks_in l.key) (drop l.place l.uses) ≡ true;
  within : l.place ≤ length l.uses;
}

abbrev pub decreases-loop-place : goal.decreases-loop-place
decreases-loop-place l = l.place
