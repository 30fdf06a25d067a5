use Rattle.std.proofs.Common.{ℕ, ◌≡◌, ◌≤◌, length}
use Rattle.std.specs.Prelude.{Contains}
use Rattle.xc_input.specs.Problem.{option_count}
use Rattle.xc_count.specs.inner.ByOption.{AreOnce}
use Rattle.xc_count.proofs.options.options_in_order.Given as goal

abbrev pub invariant-loop-item : goal.invariant-loop-item
invariant-loop-item l = record {
  once : AreOnce l.order.items l.seen.items;
  len : length l.seen.items ≡ option_count l.problem.puzzle;
}

abbrev pub invariant-loop-o : goal.invariant-loop-o
invariant-loop-o l = record {
  once : AreOnce l.order.items l.seen.items;
  len : length l.seen.items ≡ option_count l.problem.puzzle;
  here : (j : ℕ) → 1 ≤ j → j ≤ l.o → Contains l.order.items j;
}
