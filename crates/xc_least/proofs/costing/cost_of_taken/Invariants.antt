use Rattle.std.proofs.Common.{◌≡◌, take}
use Rattle.xc_least.specs.Least.{total_cost}
use Rattle.xc_least.specs.inner.Regions.{newest, taken_of}
use Rattle.xc_least.proofs.costing.cost_of_taken.Given as goal

abbrev pub invariant-loop-step : goal.invariant-loop-step
invariant-loop-step l = l.sum ≡ total_cost l.costs (taken_of (newest (take l.step-index l.steps)))
