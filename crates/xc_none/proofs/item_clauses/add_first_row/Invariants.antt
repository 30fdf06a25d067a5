use Rattle.xc_none.specs.Meanings.{AreTrueOfCovers}
use Rattle.xc_none.proofs.item_clauses.add_first_row.Given as goal

abbrev pub invariant-loop-j : goal.invariant-loop-j
invariant-loop-j l = AreTrueOfCovers l.problem.puzzle l.meanings l.clauses.items
