use Rattle.std.proofs.lemmas.Grind.{common_steps}
use Rattle.std.proofs.Common.{arith, refl, ◌∙◌}
use Rattle.std.proofs.lemmas.List.Elements.{All-tail}
use Rattle.xc_search.specs.Marks.{marked, IsMark}
use Rattle.xc_list.specs.Known.{IsKnownChoice}
use Rattle.xc_list.proofs.ProblemTexts.{one_line_more as one_more, all_stand}
use Rattle.xc_list.proofs.print.keep_lines.Goals as goal

pub keep_line-requires-clause-mark : goal.keep_line-requires-clause-mark
keep_line-requires-clause-mark g c =
    (rw c.in-Some.ensures.some at c.loop-mark.invariant.right) 0 c.in-Some.mark (omega arith)

pub keep_line-requires-clause-known : goal.keep_line-requires-clause-known
keep_line-requires-clause-known g c =
    (rw c.in-Some.ensures.some at c.loop-mark.invariant.known) 0 (marked c.args.laid.now.puzzle c.in-Some.mark)
    (omega arith)

pub loop-mark-preserved : goal.loop-mark-preserved
loop-mark-preserved g c = record {
  kept = c.in_ok-end.ensures.kept;
  done = c.in_ok-end.ensures.stands.within;
  end = c.in_ok-end.ensures.end;
  whole = grind (arith, common_steps, one_more);
  right = All-tail (IsMark c.args.laid.now.puzzle) c.in-Some.mark _
      (rw c.in-Some.ensures.some at c.loop-mark.invariant.right);
  known = All-tail (IsKnownChoice c.args.laid.now.puzzle) (marked c.args.laid.now.puzzle c.in-Some.mark) _
      (rw c.in-Some.ensures.some at c.loop-mark.invariant.known);
  header = c.in_ok-end.ensures.header ∙ c.loop-mark.invariant.header;
  size = c.keep_line.ensures.size;
}

pub returns-clause-put : goal.returns-clause-put
returns-clause-put g c = grind (arith, all_stand)

pub returns-clause-end : goal.returns-clause-end
returns-clause-end g c =
    let all =
    all_stand c.args.laid.now _ _ _ _ _ _ _ c.loop-mark.invariant.kept c.loop-mark.invariant.size
    c.loop-mark.invariant.end c.loop-mark.invariant.header c.loop-mark.invariant.whole
    (c.in_default.ensures.none refl) in
    (all.1, all.2)
