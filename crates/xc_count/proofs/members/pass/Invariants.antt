use Rattle.std.proofs.Common.{◌≡◌, ◌-◌, ◌<◌, ◌≤◌, length, drop}
use Rattle.std.specs.Prelude.{IfSome}
use Rattle.xc_search.specs.InSpan.{left_of}
use Rattle.xc_search.specs.Listing.{whole}
use Rattle.xc_search.specs.Nodes.{IsRowOf}
use Rattle.xc_count.proofs.Turns.{rows_after}
use Rattle.xc_count.proofs.members.pass.Given as goal

abbrev pub invariant-loop : goal.invariant-loop
invariant-loop l = record {
  some : 0 < l.left;
  within : l.left ≤ l.fn.many;
  same : l.span.puzzle ≡ l.initial.span.puzzle;
  node : IfSome l.span.row (λ row. IsRowOf (whole l.span.puzzle) row);
  passed : l.fn.many - l.left ≤ length (left_of l.initial.span);
  rest : left_of l.span ≡ drop (l.fn.many - l.left) (left_of l.initial.span);
}

abbrev pub decreases-loop : goal.decreases-loop
decreases-loop l = rows_after l.initial.span.puzzle l.span.row
