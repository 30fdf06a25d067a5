use Rattle.std.proofs.Common.{◌≡◌, ◌≤◌, ◌-◌}
use Rattle.std.specs.Prelude.{sum_by}
use Rattle.xc_least.specs.inner.Prices.{given_by_item, taken_by_item, up_to}
use Rattle.xc_least.proofs.priced.sides_of.Given as goal

abbrev pub invariant-loop-item : goal.invariant-loop-item
invariant-loop-item l = record {
  within : l.item ≤ l.items;
  give : l.give ≡ sum_by (given_by_item l.prices l.uses) (up_to l.item);
  take : l.take ≡ sum_by (taken_by_item l.prices l.uses) (up_to l.item);
}

abbrev pub decreases-loop-item : goal.decreases-loop-item
decreases-loop-item l = l.items - l.item
