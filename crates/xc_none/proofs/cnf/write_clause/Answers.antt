use Rattle.std.specs.Prelude.{codes}
use Rattle.xc_text.proofs.SinkLemmas.{broke_before, then_writes, failed}
use Rattle.xc_none.proofs.cnf.write_clause.Goals as goal

pub returns-in_err-write_literals : goal.returns-in_err-write_literals
returns-in_err-write_literals g c = failed _ c.from_residual.ensures.0 (broke_before
    (codes "0\n") c.in_err-write_literals.ensures)

pub returns : goal.returns
returns g c = then_writes _ _ c.write_all.result c.in_ok-write_literals.ensures c.write_all.ensures
