use Rattle.std.proofs.Common.{arith}
use Rattle.xc_list.proofs.ProblemTexts.{ends_there, first_fits, line_stands}
use Rattle.xc_list.proofs.print.keep_line.Goals as goal

pub returns-in-Some-clause-end : goal.returns-in-Some-clause-end
returns-in-Some-clause-end g c = grind (arith, ends_there)

pub put_choice-requires-clause-room : goal.put_choice-requires-clause-room
put_choice-requires-clause-room g c = grind (arith, first_fits)

pub returns-then-put-clause-kept : goal.returns-then-put-clause-kept
returns-then-put-clause-kept g c =
    (line_stands _ _ _ _ _ _ _ _ _ _ _ c.requires.kept c.requires.done c.requires.from c.requires.size
    c.put_choice.ensures.size c.in_ok-end.ensures.end.1 c.requires.same c.choice_of.ensures c.in_ok-end.ensures.put
    (c.put.ensures c.if-put.true)).0

pub returns-then-put-clause-end : goal.returns-then-put-clause-end
returns-then-put-clause-end g c =
    (line_stands _ _ _ _ _ _ _ _ _ _ _ c.requires.kept c.requires.done c.requires.from c.requires.size
    c.put_choice.ensures.size c.in_ok-end.ensures.end.1 c.requires.same c.choice_of.ensures c.in_ok-end.ensures.put
    (c.put.ensures c.if-put.true)).1

pub returns-then-put-clause-header : goal.returns-then-put-clause-header
returns-then-put-clause-header g c =
    (line_stands _ _ _ _ _ _ _ _ _ _ _ c.requires.kept c.requires.done c.requires.from c.requires.size
    c.put_choice.ensures.size c.in_ok-end.ensures.end.1 c.requires.same c.choice_of.ensures c.in_ok-end.ensures.put
    (c.put.ensures c.if-put.true)).2
