use Rattle.std.proofs.Common.{◌≡◌, ◌<◌}
use Rattle.std.specs.Prelude.{IfSome}
use Rattle.xc_input.specs.Problem.{numbered_get}
use Rattle.xc_search.specs.InSpan.{left_of}
use Rattle.xc_search.specs.Listing.{whole}
use Rattle.xc_search.specs.Nodes.{IsRowOf}
use Rattle.xc_count.proofs.passing.pass_many.Given as goal

abbrev pub invariant-loop-span : goal.invariant-loop-span
invariant-loop-span l = record {
  node : IfSome l.span.row (λ row. IsRowOf (whole l.span.puzzle) row);
  same : numbered_get (left_of l.initial.span) l.initial.number ≡ numbered_get (left_of l.span) l.number;
  above : 0 < l.initial.number → 0 < l.number;
}

abbrev pub decreases-loop-span : goal.decreases-loop-span
decreases-loop-span l = l.number
