use Rattle.std.proofs.Common.{◌≡◌, length}
use Rattle.std.specs.Prelude.{All}
use Rattle.xc_count.proofs.occurring.never.Given as goal

abbrev pub invariant-loop : goal.invariant-loop
invariant-loop l = record {
  len : length l.times.items ≡ l.counter;
  zero : All (λ t. t ≡ 0) l.times.items;
}
