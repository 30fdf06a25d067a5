use Rattle.std.proofs.Common.{◌≡◌, ◌≤◌, ◌-◌}
use Rattle.std.specs.Prelude.{sum_by}
use Rattle.xc_least.specs.inner.Prices.{taken_at_most, up_to}
use Rattle.xc_least.proofs.priced.allowed.Given as goal

abbrev pub invariant-loop-item : goal.invariant-loop-item
invariant-loop-item l = record {
  within : l.item ≤ l.items;
  sum : l.sum ≡ sum_by (taken_at_most l.prices l.bounds) (up_to l.item);
}

abbrev pub decreases-loop-item : goal.decreases-loop-item
decreases-loop-item l = l.items - l.item
