use Rattle.std.proofs.Common.{◌≡◌, ◌≤◌, replicate, length}
use Rattle.std.specs.Prelude.{vec_capacity}
use Rattle.xc_dance.specs.inner.Tables.{values}
use Rattle.xc_dance.proofs.links.cells.column.Column.new.Given as goal

-- so many zeros so far
abbrev pub invariant-loop : goal.invariant-loop
invariant-loop l = record {
  zeros : values l.cells.items ≡ replicate l.counter 0;
  size : length l.cells.items ≡ l.counter;
  room : l.count ≤ vec_capacity l.cells;
}
