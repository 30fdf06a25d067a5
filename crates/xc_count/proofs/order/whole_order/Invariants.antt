use Rattle.std.proofs.Common.{ℕ, ◌≡◌, ◌≤◌, length}
use Rattle.std.specs.Prelude.{Contains}
use Rattle.xc_input.specs.Problem.{primary_count}
use Rattle.xc_count.specs.inner.ByOption.{AreOnce}
use Rattle.xc_count.proofs.order.whole_order.Given as goal

abbrev pub invariant-loop-item : goal.invariant-loop-item
invariant-loop-item l = record {
  once : AreOnce l.order.items l.seen.items;
  len : length l.seen.items ≡ primary_count l.problem.puzzle;
}

abbrev pub invariant-loop-i : goal.invariant-loop-i
invariant-loop-i l = record {
  once : AreOnce l.order.items l.seen.items;
  len : length l.seen.items ≡ primary_count l.problem.puzzle;
  here : (j : ℕ) → 1 ≤ j → j ≤ l.i → Contains l.order.items j;
}
