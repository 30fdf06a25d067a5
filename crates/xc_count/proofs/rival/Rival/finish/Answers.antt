use Rattle.std.proofs.Common.{◌≡◌, ◌∙◌, arith, ap, subst}
use Rattle.std.specs.Prelude.{IfSome}
use Rattle.xc_input.specs.Problem.{Puzzle}
use Rattle.xc_search.specs.InSpan.{InSpan}
use Rattle.xc_search.specs.Listing.{whole}
use Rattle.xc_search.specs.Nodes.{IsRowOf}
use Rattle.xc_count.proofs.Turns.{fewer_rows, passed_or_left}
use Rattle.xc_count.proofs.rival.Rival.finish.Goals as goal

pub loop-count-smaller : goal.loop-count-smaller
loop-count-smaller c =
    let same : c.go_on-went.new.self.puzzle ≡ c.args.self.puzzle =
    ap (λ (t : InSpan). t.puzzle) c.go_on-went.ensures.still ∙ c.loop-count.invariant.same in
    fewer_rows _ _ c.go_on-went.result c.args.self.puzzle c.loop-count.span c.go_on-went.new.self c.go_on-went.ensures
    (omega arith) (omega arith) c.in-Member.is same c.loop-count.invariant.node

pub loop-count-preserved : goal.loop-count-preserved
loop-count-preserved c =
    let same : c.go_on-went.new.self.puzzle ≡ c.args.self.puzzle =
    ap (λ (t : InSpan). t.puzzle) c.go_on-went.ensures.still ∙ c.loop-count.invariant.same in
    record {
      same = same;
      passed = omega (
        arith,
        passed_or_left _ _ c.go_on-went.result c.loop-count.span c.go_on-went.new.self c.go_on-went.ensures,
        c.loop-count.invariant.passed,
        c.in_ok-add_assign.ensures.sum,
        c.from_u64.ensures,
      );
      node = subst (λ (q : Puzzle). IfSome c.go_on-went.new.self.row (λ row. IsRowOf (whole q) row)) same
          c.go_on-went.ensures.comes.node;
    }
