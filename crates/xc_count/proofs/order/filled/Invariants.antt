use Rattle.std.proofs.Common.{◌≡◌, length}
use Rattle.std.specs.Prelude.{All}
use Rattle.xc_count.proofs.order.filled.Given as goal

abbrev pub invariant-loop : goal.invariant-loop
invariant-loop l = record {
  len : length l.values.items ≡ l.counter;
  each : All (λ x. x ≡ l.value) l.values.items;
}
