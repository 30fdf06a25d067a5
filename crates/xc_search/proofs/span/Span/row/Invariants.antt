use Rattle.std.proofs.Common.{◌≡◌, ◌+◌, ◌≤◌, map, take, length}
use Rattle.std.specs.Prelude.{vec_capacity}
use Rattle.xc_search.specs.declared.level.Level.{Level}
use Rattle.xc_search.specs.declared.span.RowNumber.{RowNumber}
use Rattle.xc_search.proofs.span.Span.row.Given as goal

abbrev pub invariant-loop-level : goal.invariant-loop-level
invariant-loop-level g l = record {
  numbers : map (λ (x : RowNumber). x.k) l.row.items ≡ map (λ (v : Level). v.begun) (take l.level-index l.levels);
  branches : map (λ (x : RowNumber). x.n) l.row.items ≡ map (λ (v : Level). v.count) (take l.level-index l.levels);
  capacity : length l.levels + 1 ≤ vec_capacity l.row;
}
