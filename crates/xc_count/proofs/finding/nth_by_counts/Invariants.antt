use Rattle.std.proofs.Common.{◌≡◌}
use Rattle.xc_input.specs.Problem.{numbered_get}
use Rattle.xc_search.specs.Cover.{members}
use Rattle.xc_count.specs.inner.Numbered.{left_by_key, size_left, solution_at}
use Rattle.xc_count.proofs.ByNumber.{after}
use Rattle.xc_count.proofs.finding.nth_by_counts.Given as goal

abbrev pub invariant-loop-fork : goal.invariant-loop-fork
invariant-loop-fork l = record {
  found : numbered_get (members l.problem.puzzle) l.number
      ≡ after l.choices.items (solution_at l.problem.puzzle l.plan l.key.items l.rest);
  same : l.rival.puzzle ≡ l.initial.rival.puzzle;
}

abbrev pub decreases-loop-fork : goal.decreases-loop-fork
decreases-loop-fork l = size_left (left_by_key l.problem.puzzle l.plan l.key.items)
