use Rattle.std.proofs.Common.{◌∙◌, ap, refl}
use Rattle.xc_count.specs.inner.Passed.{left_worth, worth_passed}
use Rattle.xc_count.specs.inner.Worth.{worth_by}
use Rattle.xc_count.proofs.forward.next_layer.Goals as goal

pub returns-in-Ok-clause-worth : goal.returns-in-Ok-clause-worth
returns-in-Ok-clause-worth c = λ h.
    let p = c.args.problem.now.puzzle in
    let plan = c.args.plan.now in
    let step = c.args.step in
    c.in-Ok.ensures.worth (worth_passed h p plan step) (left_worth h p plan step.next) (h, refl, refl)
    ∙ ap (worth_by (worth_passed h p plan step)) c.as_slice.ensures.value
