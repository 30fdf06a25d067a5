use Rattle.xc_none.specs.Meanings.{AreTrueOfCovers}
use Rattle.xc_none.proofs.item_clauses.add_colours.Given as goal

abbrev pub invariant-loop-option : goal.invariant-loop-option
invariant-loop-option l = AreTrueOfCovers l.problem.puzzle l.meanings l.clauses.items
