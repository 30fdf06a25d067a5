use Rattle.xc_text.proofs.SinkLemmas.{broke_before, then_writes, failed}
use Rattle.xc_none.specs.Cnf.{name_at}
use Rattle.xc_none.proofs.cnf.write_last_colour.Goals as goal

pub returns-in_err-write_all : goal.returns-in_err-write_all
returns-in_err-write_all g c = failed _ c.from_residual.ensures.0 (broke_before
    (name_at c.args.problem.now.colours c.args.colour) c.in_err-write_all.ensures)

pub returns : goal.returns
returns g c = then_writes _ _ c.write_colour.result c.in_ok-write_all.ensures c.write_colour.ensures
