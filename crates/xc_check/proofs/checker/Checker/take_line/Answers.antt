use Rattle.xc_check.proofs.checker.Checker.take_line.Goals as goal

pub returns-in_ok-take_class-in-Some-clause-takes : goal.returns-in_ok-take_class-in-Some-clause-takes
returns-in_ok-take_class-in-Some-clause-takes c =
    let class = c.in-Some.ensures in rw class.1 (c.in_ok-take_class-in-Some.ensures.takes class.0 class.2)
