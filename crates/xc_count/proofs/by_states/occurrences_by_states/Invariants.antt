use Rattle.std.proofs.Common.{ℕ, ◌≡◌, ◌+◌, length}
use Rattle.std.specs.Prelude.{All, slice_index, sum_by}
use Rattle.xc_input.specs.Problem.{option_count}
use Rattle.xc_count.specs.Occurrences.{occurrences_of}
use Rattle.xc_count.specs.inner.Passed.{AreBelow, IsKept, taken_by}
use Rattle.xc_count.proofs.by_states.occurrences_by_states.Given as goal

abbrev pub invariant-loop-before : goal.invariant-loop-before
invariant-loop-before l = record {
  kept : All (IsKept l.problem.puzzle l.plan) l.kept.items;
  below : AreBelow l.problem.puzzle l.plan l.ahead;
  len : length l.counts.items ≡ option_count l.problem.puzzle;
  counts : (j : ℕ) → slice_index l.counts.items j + sum_by (taken_by l.problem.puzzle l.plan (j + 1)) l.kept.items
      ≡ occurrences_of l.problem.puzzle (j + 1);
}

abbrev pub decreases-loop-before : goal.decreases-loop-before
decreases-loop-before l = length l.kept.items
