use Rattle.xc_none.specs.Meanings.{AreTrueOfCovers}
use Rattle.xc_none.proofs.item_clauses.add_upper_row.Given as goal

abbrev pub invariant-loop-k : goal.invariant-loop-k
invariant-loop-k l = AreTrueOfCovers l.problem.puzzle l.meanings l.clauses.items
