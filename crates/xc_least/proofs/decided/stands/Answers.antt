use Rattle.std.proofs.Common.{arith, eqb-true, false}
use Rattle.xc_least.specs.declared.steps.Step.{Step}
use Rattle.xc_least.proofs.RegionLemmas.{taken_at}
use Rattle.xc_least.proofs.decided.stands.Goals as goal

pub returns-then-step : goal.returns-then-step
returns-then-step c = λ e.
    let z : Step = record { option = 0; taken = false; spent = 0 } in
    taken_at c.args.steps.now c.args.mark.step z c.args.mark.option (omega arith) c.if-step.true (eqb-true _ _ e)
