use Rattle.std.proofs.Common.{ℕ, ◌≡◌, ◌≤◌}
use Rattle.xc_input.specs.Problem.{uses_of}
use Rattle.xc_search.specs.inner.Levels.{primary_uses}
use Rattle.xc_search.proofs.counts.even_size.Given as goal

abbrev pub invariant-loop-o : goal.invariant-loop-o
invariant-loop-o l = (k : ℕ) → (1 ≤ k) × (k ≤ l.o) → primary_uses l.problem.puzzle (uses_of l.problem.puzzle k) ≡ l.size
