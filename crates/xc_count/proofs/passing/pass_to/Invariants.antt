use Rattle.std.proofs.Common.{◌≡◌, ◌<◌, Some}
use Rattle.std.specs.Prelude.{IfSome}
use Rattle.xc_input.specs.Problem.{numbered_get}
use Rattle.xc_search.specs.InSpan.{left_of}
use Rattle.xc_search.specs.Listing.{whole}
use Rattle.xc_search.specs.Nodes.{IsRowOf}
use Rattle.xc_count.proofs.passing.pass_to.Given as goal

abbrev pub invariant-loop-span : goal.invariant-loop-span
invariant-loop-span l = record {
  node : IfSome l.span.row (λ row. IsRowOf (whole l.span.puzzle) row);
  ahead : 0 < l.number
      → numbered_get (left_of l.initial.span) l.initial.number ≡ numbered_get (left_of l.span) l.number;
  there : l.number ≡ 0 → numbered_get (left_of l.initial.span) l.initial.number ≡ Some l.span.shown;
}

abbrev pub decreases-loop-span : goal.decreases-loop-span
decreases-loop-span l = l.number
