use Rattle.std.proofs.Common.{◌≡◌, drop}
use Rattle.std.specs.Prelude.{◌+ℤ◌}
use Rattle.xc_least.specs.Least.{total_cost}
use Rattle.xc_least.proofs.costing.cost_of.Given as goal

abbrev pub invariant-loop-option : goal.invariant-loop-option
invariant-loop-option l = (l.sum +ℤ total_cost l.costs (drop l.option-index l.options)) ≡ total_cost l.costs l.options
