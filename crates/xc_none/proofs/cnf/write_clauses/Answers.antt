use Rattle.std.proofs.Common.{ℕ, List, subst, ap, ◌∙◌}
use Rattle.std.specs.Prelude.{Vec}
use Rattle.std.specs.declared.alloc.Global.{Global}
use Rattle.xc_text.specs.Texts.{BrokeOff}
use Rattle.xc_text.proofs.SinkLemmas.{loop_failed}
use Rattle.xc_none.specs.Cnf.{clause_text}
use Rattle.xc_none.proofs.cnf.write_clauses.Goals as goal

pub returns-in_err-write_clause : goal.returns-in_err-write_clause
returns-in_err-write_clause g c =
    let text : Vec ℕ Global → List ℕ = λ (x : Vec ℕ Global). clause_text x.items in
    loop_failed text c.args.clauses.now c.loop-clause.clause-index c.clause-item.result c.from_residual.result
    c.from_residual.ensures.0 c.loop-clause-test.true c.loop-clause.invariant
    (subst (λ (t : List ℕ). BrokeOff (g.S.Sink.state c.loop-clause.sink) (g.S.Sink.state c.write_clause.new.sink) t)
    (ap clause_text c.as_slice.ensures.value ∙ ap text c.clause-item.is) c.in_err-write_clause.ensures)
