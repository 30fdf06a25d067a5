use Rattle.std.proofs.Common.{ℕ, ◌≤◌}
use Rattle.xc_input.specs.Problem.{low_at}
use Rattle.xc_count.specs.inner.ByOption.{marks_in}
use Rattle.xc_count.proofs.marks.are_met.Given as goal

abbrev pub invariant-loop-i : goal.invariant-loop-i
invariant-loop-i l = (j : ℕ) → 1 ≤ j → j ≤ l.i → low_at l.problem.puzzle j ≤ marks_in l.key j
