use Rattle.xc_none.specs.Meanings.{AreTrueOfCovers}
use Rattle.xc_none.proofs.formula.all_clauses.Given as goal

abbrev pub invariant-loop-i : goal.invariant-loop-i
invariant-loop-i l = AreTrueOfCovers l.problem.puzzle l.table.meanings.items l.clauses.items
