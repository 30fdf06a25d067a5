use Rattle.std.proofs.Common.{◌∙◌, ap, subst}
use Rattle.xc_text.specs.Lines.{lines_of}
use Rattle.xc_input.specs.Named.{Named}
use Rattle.xc_check.specs.Listed.{AreVerdicts}
use Rattle.xc_check.specs.inner.Classes.{Classes}
use Rattle.xc_check.proofs.checker.check.Goals as goal

pub take_lines-requires : goal.take_lines-requires
take_lines-requires c = c.in_ok-checker.ensures.begun (lines_of c.args.listing.now)

pub returns-clause-verdicts : goal.returns-clause-verdicts
returns-clause-verdicts c =
    let taken = c.in_ok-take_lines.ensures.taken in
    let problem = ap (λ (b : Classes). b.problem) c.take_lines.ensures.options ∙ c.in_ok-checker.ensures.problem in
    subst (λ (p : Named). AreVerdicts p (lines_of c.args.listing.now) c.in_ok-finish.field-0.items) problem
    (c.in_ok-finish.ensures _ taken.done taken.progress)
