use Rattle.std.specs.Prelude.{IfSome}
use Rattle.xc_search.specs.Listing.{whole}
use Rattle.xc_search.specs.Nodes.{IsRowOf}
use Rattle.xc_search.specs.InSpan.{left_of}
use Rattle.xc_list.specs.Output.{member_text}
use Rattle.xc_text.specs.Texts.{Took}
use Rattle.xc_list.specs.inner.Writing.{GoesFew, AreKept}
use Rattle.xc_list.proofs.Writing.{first_texts}
use Rattle.xc_list.proofs.SpanLemmas.{IsAhead}
use Rattle.xc_list.proofs.TextDigests.{sunk}
use Rattle.std.proofs.Common.{◌≡◌}
use Rattle.xc_list.proofs.spans.write_each.Given as goal

-- the members so far were written, and the others are left
abbrev pub invariant-loop-members : goal.invariant-loop-members
invariant-loop-members g l = record {
  still : l.span ≡ record l.fn.span
      { row = l.span.row; shown = l.span.shown; made = l.span.made; begun = l.span.begun };
  node : IfSome l.span.row (λ row. IsRowOf (whole l.span.puzzle) row);
  ahead : IsAhead l.fn.span.puzzle l.fn.span.until l.fn.span.row l.span.row l.most l.members l.steps;
  few : GoesFew l.members l.steps l.fn.span l.span;
  taken : Took (g.S.Sink.state l.fn.sink) (g.S.Sink.state l.sink)
      (first_texts (member_text l.bodies) (left_of l.fn.span) l.members);
  kept : AreKept l.bodies l.page.text l.page.kept;
  noted : Took (sunk l.fn.text) (sunk l.text) (first_texts (member_text l.bodies) (left_of l.fn.span) l.members);
}
