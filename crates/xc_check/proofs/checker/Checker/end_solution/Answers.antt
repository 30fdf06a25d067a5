use Rattle.std.proofs.Common.{subst}
use Rattle.xc_check.specs.inner.Checking.{Progress, Closes}
use Rattle.xc_check.proofs.CheckLemmas.{progress, closed}
use Rattle.xc_check.proofs.checker.Checker.end_solution.Goals as goal

pub returns-in_ok-push-clause-closes : goal.returns-in_ok-push-clause-closes
returns-in_ok-push-clause-closes c =
    let i = c.self.inside in
    let s : Progress = progress i.options i.open_number i.chosen.items i.verdicts.items in
    subst (λ (t : Progress). Closes t (record t { verdicts = c.push.new.self.items })) c.self.view_is
    (closed s c.in-Some.number c.as_slice.result.now c.is_cover-cover.result c.push.new.self.items
    c.self.invariant.indexed c.as_slice.ensures.value c.is_cover-cover.ensures.decided
    c.in-Some.is c.in_ok-push.ensures.items)
