use Rattle.std.specs.Prelude.{All}
use Rattle.xc_search.specs.Marks.{IsMark}
use Rattle.search_tests.proofs.search.made.is_marked.Given as goal

-- the marks that are left are marks of the problem
abbrev pub invariant-loop-choice : goal.invariant-loop-choice
invariant-loop-choice g l = All (IsMark (g.W.AtMember.puzzle l.at)) l.marks
