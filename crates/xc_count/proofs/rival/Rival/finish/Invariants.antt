use Rattle.std.proofs.Common.{◌≡◌, ◌+◌, length}
use Rattle.std.specs.Prelude.{IfSome}
use Rattle.xc_search.specs.Cover.{members}
use Rattle.xc_search.specs.InSpan.{left_of}
use Rattle.xc_search.specs.Listing.{whole}
use Rattle.xc_search.specs.Nodes.{IsRowOf}
use Rattle.xc_count.proofs.Turns.{rows_after}
use Rattle.xc_count.proofs.rival.Rival.finish.Given as goal

abbrev pub invariant-loop-count : goal.invariant-loop-count
invariant-loop-count l = record {
  same : l.span.puzzle ≡ l.fn.self.puzzle;
  passed : l.count + length (left_of l.span) ≡ length (members l.fn.self.puzzle);
  node : IfSome l.span.row (λ row. IsRowOf (whole l.fn.self.puzzle) row);
}

abbrev pub decreases-loop-count : goal.decreases-loop-count
decreases-loop-count l = rows_after l.fn.self.puzzle l.span.row
