use Rattle.std.proofs.Common.{◌≡◌, length}
use Rattle.std.specs.Prelude.{All}
use Rattle.xc_count.proofs.by_states.numbers.Given as goal

abbrev pub invariant-loop : goal.invariant-loop
invariant-loop l = record {
  len : length l.numbers.items ≡ l.counter;
  each : All (λ n. n ≡ l.each) l.numbers.items;
}
