use Rattle.std.specs.Prelude.{codes}
use Rattle.xc_text.proofs.SinkLemmas.{then_took, then_broke, broke_before, then_writes, failed}
use Rattle.xc_none.specs.Cnf.{meaning_text}
use Rattle.xc_none.proofs.cnf.write_comment.Goals as goal

pub returns-in_err-write_numbered : goal.returns-in_err-write_numbered
returns-in_err-write_numbered g c = failed _ c.from_residual.ensures.0 (broke_before (codes "\n") (broke_before
    (meaning_text c.args.problem.now c.args.meaning) c.in_err-write_numbered.ensures))

pub returns-in_err-write_meaning : goal.returns-in_err-write_meaning
returns-in_err-write_meaning g c = failed _ c.from_residual-in_err-write_meaning.ensures.0 (broke_before
    (codes "\n") (then_broke c.in_ok-write_numbered.ensures c.in_err-write_meaning.ensures))

pub returns : goal.returns
returns g c = then_writes _ _ c.write_all.result
    (then_took c.in_ok-write_numbered.ensures c.in_ok-write_meaning.ensures) c.write_all.ensures
