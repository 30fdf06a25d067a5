use Rattle.std.proofs.Common.{take}
use Rattle.std.specs.Prelude.{flat_map}
use Rattle.xc_text.specs.Texts.{Took}
use Rattle.xc_none.specs.Cnf.{clause_text}
use Rattle.xc_none.proofs.cnf.write_clauses.Given as goal

-- the clauses so far were taken, and no failure came
abbrev pub invariant-loop-clause : goal.invariant-loop-clause
invariant-loop-clause g l = Took (g.S.Sink.state l.fn.sink) (g.S.Sink.state l.sink)
    (flat_map (λ c. clause_text c.items) (take l.clause-index l.clauses))
