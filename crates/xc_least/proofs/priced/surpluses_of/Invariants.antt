use Rattle.std.proofs.Common.{ℕ, ◌≡◌, ◌≤◌, ◌-◌, length}
use Rattle.std.specs.Prelude.{sum_by}
use Rattle.xc_least.specs.inner.Regions.{surplus_at}
use Rattle.xc_least.specs.inner.Prices.{over_at, under_at, up_to}
use Rattle.xc_least.proofs.priced.surpluses_of.Given as goal

abbrev pub invariant-loop-option : goal.invariant-loop-option
invariant-loop-option l = record {
  within : l.option ≤ l.options;
  many : length l.over.items ≡ l.option;
  over : (o : ℕ) → 1 ≤ o → o ≤ l.option
      → surplus_at l.over.items o ≡ over_at l.problem.puzzle l.costs l.prices o;
  under : l.under ≡ sum_by (under_at l.problem.puzzle l.costs l.prices) (up_to l.option);
}

abbrev pub decreases-loop-option : goal.decreases-loop-option
decreases-loop-option l = l.options - l.option
