use Rattle.xc_text.proofs.SinkLemmas.{then_took, then_broke, broke_before, then_writes, failed}
use Rattle.xc_none.specs.Cnf.{name_at, place_text}
use Rattle.xc_none.proofs.cnf.write_up_to.Goals as goal

pub returns-in_err-write_all : goal.returns-in_err-write_all
returns-in_err-write_all g c = failed _ c.from_residual.ensures.0 (broke_before
    (place_text c.args.problem.now c.args.place) (broke_before
    (name_at c.args.problem.now.names c.args.item) c.in_err-write_all.ensures))

pub returns-in_err-write_item : goal.returns-in_err-write_item
returns-in_err-write_item g c = failed _ c.from_residual-in_err-write_item.ensures.0 (broke_before
    (place_text c.args.problem.now c.args.place) (then_broke c.in_ok-write_all.ensures c.in_err-write_item.ensures))

pub returns : goal.returns
returns g c = then_writes _ _ c.write_place.result
    (then_took c.in_ok-write_all.ensures c.in_ok-write_item.ensures) c.write_place.ensures
