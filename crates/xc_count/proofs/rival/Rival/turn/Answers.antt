use Rattle.std.proofs.Common.{◌≡◌, ◌<◌, ◌∙◌, arith, ap, sym, drop, length}
use Rattle.xc_search.specs.Cover.{members}
use Rattle.xc_search.specs.InSpan.{InSpan, left_of}
use Rattle.xc_count.proofs.MembersPassed.{turn_left, turn_shown}
use Rattle.xc_count.proofs.Turns.{passed_or_left}
use Rattle.xc_count.proofs.rival.Rival.turn.Goals as goal

pub invariant_of-self : goal.invariant_of-self
invariant_of-self c =
    let went = c.go_on-went.ensures in
    let s = c.self.inside.span in
    let n = c.go_on-went.new.self in
    let w = c.go_on-went.result in
    let passed = c.self.inside.passed in
    let most = c.self.inside.most in
    let same : n.puzzle ≡ s.puzzle = ap (λ (t : InSpan). t.puzzle) went.still in
    let before : passed < most = omega (arith, c.self.invariant.most, c.if-self.false) in
    let rest : left_of s ≡ drop passed (members n.puzzle) =
    c.self.invariant.left ∙ ap (λ q. drop passed (members q)) (sym same) in
    record {
      passed = omega (
        arith,
        passed_or_left _ _ w s n went,
        c.self.invariant.passed,
        ap (λ q. length (members q)) same,
      );
      left = turn_left most passed _ w s n (members n.puzzle) went before rest;
      most = omega (arith, went.passes.within.1, before);
      shown = λ all some. turn_shown most passed _ w s n (members n.puzzle) went before rest all;
      node = went.comes.node;
      branches = c.next_branches-self-inside.ensures;
    }
