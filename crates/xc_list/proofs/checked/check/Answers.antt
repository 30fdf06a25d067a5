use Rattle.xc_list.proofs.OutputLemmas.{judged}
use Rattle.xc_list.proofs.checked.check.Goals as goal

pub returns-clause-outputs : goal.returns-clause-outputs
returns-clause-outputs c = λ spacing limit fits named is.
    judged _ c.check.ensures.whole named spacing limit fits _ _ is c.check.ensures.verdicts c.check.ensures.fault
