use Rattle.std.proofs.Common.{ℕ, ◌<◌, ◌⊎◌, List}
use Rattle.std.specs.Prelude.{sum_by, ◌≤ℤ◌}
use Rattle.xc_input.specs.Cover.{IsCover}
use Rattle.xc_least.specs.Least.{total_cost}
use Rattle.xc_least.specs.inner.Regions.{Remains, newest, surplus_at}
use Rattle.xc_least.specs.inner.Held.{AreTablesOf}
use Rattle.xc_least.proofs.floor.has_floor.Given as goal

abbrev pub invariant-loop-left : goal.invariant-loop-left
invariant-loop-left l = record {
  kept : AreTablesOf l.problem.puzzle (surplus_at l.surplus) l.decided.place.items l.decided.held.items
      l.decided.steps.items;
  out : (s : List ℕ) → IsCover l.problem.puzzle s → sum_by (surplus_at l.surplus) s < l.gap
      → (l.limit ≤ℤ total_cost l.costs s) ⊎ Remains (newest l.decided.steps.items) s;
}

abbrev pub decreases-loop-left : goal.decreases-loop-left
decreases-loop-left l = l.left
