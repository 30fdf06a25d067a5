use Rattle.std.proofs.Common.{ℕ, ◌<◌, ◌≤◌, List}
use Rattle.std.specs.Prelude.{count_by, sum_by}
use Rattle.xc_input.specs.Cover.{IsCover}
use Rattle.xc_least.specs.inner.Regions.{IsAsDecided, newest, surplus_at}
use Rattle.xc_least.specs.inner.Prices.{up_to}
use Rattle.xc_least.proofs.SetLemmas.{holds_and_has}
use Rattle.xc_least.proofs.lost.are_too_few.Given as goal

-- no cover that is still to be found has more of the options so far that hold the item
abbrev pub invariant-loop-place : goal.invariant-loop-place
invariant-loop-place l = record {
  count : (s : List ℕ) → IsCover l.problem.puzzle s → IsAsDecided (newest l.decided.steps.items) s
      → sum_by (surplus_at l.surplus) s < l.gap
      → count_by (holds_and_has l.problem.puzzle l.item s) (up_to l.place) ≤ l.left;
  within : l.left ≤ l.low;
}
