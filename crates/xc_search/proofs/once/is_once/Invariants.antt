use Rattle.std.proofs.Common.{ℕ, ◌≡◌, ◌≤◌}
use Rattle.xc_input.specs.Problem.{low_at, high_at}
use Rattle.xc_search.proofs.once.is_once.Given as goal

abbrev pub invariant-loop-i : goal.invariant-loop-i
invariant-loop-i l = (j : ℕ) → (1 ≤ j) × (j ≤ l.i) → (low_at l.problem.puzzle j ≡ 1) × (high_at l.problem.puzzle j ≡ 1)
