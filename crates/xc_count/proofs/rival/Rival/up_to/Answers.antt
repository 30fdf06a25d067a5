use Rattle.std.proofs.Common.{◌≡◌, ◌∙◌, arith, ap, sym, subst, length}
use Rattle.std.specs.Prelude.{IfSome}
use Rattle.xc_input.specs.Problem.{Puzzle}
use Rattle.xc_search.specs.Cover.{members}
use Rattle.xc_search.specs.InSpan.{left_of}
use Rattle.xc_search.specs.Listing.{whole}
use Rattle.xc_search.specs.Nodes.{IsRowOf}
use Rattle.xc_count.proofs.rival.Rival.up_to.Goals as goal

pub invariant_of-result : goal.invariant_of-result
invariant_of-result c =
    let s = c.in_ok-all_members.field-0 in
    let begun = c.in_ok-all_members.ensures in
    record {
      passed =
          let all : length (left_of s) ≡ length (members s.puzzle) =
          ap length begun.left ∙ ap (λ q. length (members q)) (sym begun.puzzle) in
          omega (arith, all);
      left = begun.left ∙ ap members (sym begun.puzzle);
      most = omega arith;
      shown = λ e h. absurd (omega (arith, e, h));
      node = subst (λ (q : Puzzle). IfSome s.row (λ row. IsRowOf (whole q) row)) (sym begun.puzzle) begun.node;
      branches = omega arith;
    }
