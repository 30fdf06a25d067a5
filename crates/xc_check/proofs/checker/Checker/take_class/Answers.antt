use Rattle.xc_check.specs.inner.Checking.{Progress}
use Rattle.xc_check.proofs.CheckLemmas.{progress, class_taken}
use Rattle.xc_check.proofs.checker.Checker.take_class.Goals as goal

pub returns-clause-takes : goal.returns-clause-takes
returns-clause-takes c = λ words class. (
    let i = c.self.inside in
    let own : Progress = progress i.options i.open_number i.chosen.items i.verdicts.items in
    rw (← c.self.view_is) (class_taken own words _ _ c.self.invariant.indexed.classes
    (rw (← c.self.view_is) at class) (rw (← c.self.view_is) at c.requires.open) c.in_ok-push.ensures.items))
