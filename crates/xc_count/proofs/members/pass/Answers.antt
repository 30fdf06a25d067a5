use Rattle.std.proofs.Common.{◌≡◌, ◌∙◌, arith, ap, inr, subst}
use Rattle.std.specs.Prelude.{IfSome}
use Rattle.xc_input.specs.Problem.{Puzzle}
use Rattle.xc_search.specs.InSpan.{InSpan}
use Rattle.xc_search.specs.Listing.{whole}
use Rattle.xc_search.specs.Nodes.{IsRowOf}
use Rattle.xc_count.proofs.Turns.{fewer_rows}
use Rattle.xc_count.proofs.MembersPassed.{passed_all, passed_count, passed_shown, still_passed, still_rest}
use Rattle.xc_count.proofs.members.pass.Goals as goal

pub returns-in-Member : goal.returns-in-Member
returns-in-Member c =
    let i = c.loop.invariant in
    let went = c.go_on-went.ensures in
    let s = c.loop.span in
    let n = c.go_on-went.new.self in
    let w = c.go_on-went.result in
    let many = c.args.many in
    let left = c.loop.left in
    let old = c.args.span.now in
    record {
      node = went.comes.node;
      puzzle = ap (λ (t : InSpan). t.puzzle) went.still ∙ i.same;
      left = passed_all many left _ w old s n went i.some i.within i.passed i.rest c.in-Member.is;
      count = passed_count many left _ w old s n went i.some i.within i.passed i.rest c.in-Member.is;
      shown = passed_shown many left _ w old s n went i.some i.within i.passed i.rest c.in-Member.is;
    }

pub loop-smaller : goal.loop-smaller
loop-smaller c =
    let i = c.loop.invariant in
    let went = c.go_on-went.ensures in
    let n = c.go_on-went.new.self in
    let p = c.args.span.now.puzzle in
    let same : n.puzzle ≡ p = ap (λ (t : InSpan). t.puzzle) went.still ∙ i.same in
    fewer_rows c.loop.left _ c.go_on-went.result p c.loop.span n went i.some (omega arith) (inr c.in-Steps.is) same
    (subst (λ (q : Puzzle). IfSome c.loop.span.row (λ row. IsRowOf (whole q) row)) i.same i.node)

pub loop-preserved : goal.loop-preserved
loop-preserved c =
    let i = c.loop.invariant in
    let went = c.go_on-went.ensures in
    let s = c.loop.span in
    let n = c.go_on-went.new.self in
    let w = c.go_on-went.result in
    let many = c.args.many in
    let left = c.loop.left in
    let old = c.args.span.now in
    record {
      some = omega (arith, (went.halts.ran_out c.in-Steps.is).3, went.passes.within.1);
      within = omega (arith, i.within);
      same = ap (λ (t : InSpan). t.puzzle) went.still ∙ i.same;
      node = went.comes.node;
      passed = still_passed many left _ w old s n went i.some i.within i.passed i.rest;
      rest = still_rest many left _ w old s n went i.some i.within i.passed i.rest;
    }
