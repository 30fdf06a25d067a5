use Rattle.std.specs.Prelude.{codes, decimal}
use Rattle.xc_text.proofs.SinkLemmas.{then_took, then_broke, broke_before, then_writes, failed}
use Rattle.xc_none.specs.Cnf.{name_at}
use Rattle.xc_none.proofs.cnf.write_at_least.Goals as goal

pub returns-in_err-write_numbered : goal.returns-in_err-write_numbered
returns-in_err-write_numbered g c = failed _ c.from_residual.ensures.0 (broke_before (decimal c.args.count)
    (broke_before (codes " at least ") (broke_before
    (name_at c.args.problem.now.names c.args.item) c.in_err-write_numbered.ensures)))

pub returns-in_err-write_item : goal.returns-in_err-write_item
returns-in_err-write_item g c = failed _ c.from_residual-in_err-write_item.ensures.0 (broke_before
    (decimal c.args.count) (broke_before (codes " at least ")
    (then_broke c.in_ok-write_numbered.ensures c.in_err-write_item.ensures)))

pub returns-in_err-write_all : goal.returns-in_err-write_all
returns-in_err-write_all g c = failed _ c.from_residual-in_err-write_all.ensures.0 (broke_before
    (decimal c.args.count) (then_broke (then_took c.in_ok-write_numbered.ensures c.in_ok-write_item.ensures)
    c.in_err-write_all.ensures))

pub returns : goal.returns
returns g c = then_writes _ _ c.write_number.result (then_took
    (then_took c.in_ok-write_numbered.ensures c.in_ok-write_item.ensures) c.in_ok-write_all.ensures)
    c.write_number.ensures
