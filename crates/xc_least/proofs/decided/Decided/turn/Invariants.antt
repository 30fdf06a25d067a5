use Rattle.std.proofs.Common.{ℕ, List, length}
use Rattle.xc_least.specs.inner.Regions.{IsTurned, newest, surplus_at}
use Rattle.xc_least.specs.inner.Held.{AreTablesOf}
use Rattle.xc_least.proofs.decided.Decided.turn.Given as goal

abbrev pub invariant-loop-step : goal.invariant-loop-step
invariant-loop-step l = record {
  kept : AreTablesOf l.problem.puzzle (surplus_at l.surplus) l.self.place.items l.self.held.items l.self.steps.items;
  turned : (s : List ℕ) → IsTurned (newest l.initial.self.steps.items) s → IsTurned (newest l.self.steps.items) s;
}

abbrev pub decreases-loop-step : goal.decreases-loop-step
decreases-loop-step l = length l.self.steps.items
