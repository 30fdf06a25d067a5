use Rattle.xc_none.specs.Meanings.{AreTrueOfCovers}
use Rattle.xc_none.proofs.item_clauses.add_places.Given as goal

abbrev pub invariant-loop-at : goal.invariant-loop-at
invariant-loop-at l = AreTrueOfCovers l.problem.puzzle l.meanings l.clauses.items
