use Rattle.std.proofs.lemmas.Grind.{common_steps}
use Rattle.xc_text.proofs.SinkLemmas.{took_nothing, if_failed}
use Rattle.xc_list.proofs.Writing.{line_put, lines_broke}
use Rattle.std.proofs.Common.{◌≡◌, ◌∙◌, arith, refl, [], ap, map, subst, sym}
use Rattle.std.specs.Prelude.{All}
use Rattle.std.proofs.lemmas.List.Elements.{All-tail}
use Rattle.xc_input.specs.Problem.{Puzzle}
use Rattle.xc_search.specs.Marks.{marked, IsMark}
use Rattle.xc_list.specs.Known.{IsKnownChoice}
use Rattle.xc_list.proofs.print.put_lines.Goals as goal
use Rattle.xc_list.proofs.print.put_lines.Goals.{After-choice_of}

-- the choice that is put is the mark's
choice : (g : _) (c : After-choice_of g) → c.choice_of.result ≡ marked c.args.bodies.now.puzzle c.in-Some.mark
choice g c = c.choice_of.ensures ∙ ap (λ (p : Puzzle). marked p c.in-Some.mark) c.requires.puzzle

pub loop-mark-init : goal.loop-mark-init
loop-mark-init g c =
    let shown : map (marked c.args.bodies.now.puzzle) c.marks-marks.result ≡ g.W.AtMember.shown c.args.at.now =
    ap (λ (p : Puzzle). map (marked p) c.marks-marks.result) (sym c.requires.puzzle) ∙ c.marks-marks.ensures.marks in
    record {
      put = record { done = []; whole = shown; puts = grind (arith, common_steps, took_nothing) };
      right = subst (λ (p : Puzzle). All (IsMark p) c.marks-marks.result) c.requires.puzzle c.marks-marks.ensures.right;
      known = subst (All (IsKnownChoice c.args.bodies.now.puzzle)) (sym shown) c.requires.known;
      within = c.requires.within;
      size = c.requires.size;
    }

pub choice_of-requires : goal.choice_of-requires
choice_of-requires g c =
    subst (λ (p : Puzzle). IsMark p c.in-Some.mark) (sym c.requires.puzzle)
    ((rw c.in-Some.ensures.some at c.loop-mark.invariant.right) 0 c.in-Some.mark (omega arith))

pub put_line-requires-clause-known : goal.put_line-requires-clause-known
put_line-requires-clause-known g c =
    let at = (goal.at.put_line-requires-clause-known g c).After-choice_of in
    subst (IsKnownChoice c.args.bodies.now.puzzle) (sym (choice g at))
    ((rw c.in-Some.ensures.some at c.loop-mark.invariant.known) 0 (marked c.args.bodies.now.puzzle c.in-Some.mark)
    (omega arith))

pub loop-mark-preserved : goal.loop-mark-preserved
loop-mark-preserved g c =
    let at = (goal.at.loop-mark-preserved g c).After-choice_of in
    let p = c.args.bodies.now.puzzle in
    let is = ap (map (marked p)) c.in-Some.ensures.some in
    record {
      put = line_put c.loop-mark.invariant.put is (rw (choice g at) at c.in_ok-next.ensures.put);
      right = All-tail (IsMark p) c.in-Some.mark _ (rw c.in-Some.ensures.some at c.loop-mark.invariant.right);
      known = All-tail (IsKnownChoice p) (marked p c.in-Some.mark) _
          (rw c.in-Some.ensures.some at c.loop-mark.invariant.known);
      within = c.in_ok-next.ensures.within;
      size = c.in_ok-next.ensures.size;
    }

pub returns-in_err-next-clause-put : goal.returns-in_err-next-clause-put
returns-in_err-next-clause-put g c =
    let at = (goal.at.returns-in_err-next-clause-put g c).After-choice_of in
    let is = ap (map (marked c.args.bodies.now.puzzle)) c.in-Some.ensures.some in
    if_failed _ _ c.from_residual.ensures.0 (lines_broke c.loop-mark.invariant.put is
    (rw (choice g at) at c.in_err-next.ensures.put))
