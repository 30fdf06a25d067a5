use Rattle.std.proofs.Common.{arith}
use Rattle.xc_input.proofs.OptionLemmas.{not-here, unknown, repeated, bare, on-primary, misfit, coloured}
use Rattle.std.proofs.Common.{◌∙◌, sym}
use Rattle.xc_input.proofs.option_line.use_of.Goals as goal

pub returns-then-is_not_here-clause-judged : goal.returns-then-is_not_here-clause-judged
returns-then-is_not_here-clause-judged c = grind (arith, not-here)

pub returns-in_default-clause-judged : goal.returns-in_default-clause-judged
returns-in_default-clause-judged c = grind (arith, unknown)

pub returns-then-marks-place-clause-judged : goal.returns-then-marks-place-clause-judged
returns-then-marks-place-clause-judged c = λ names text seen all len cut are.
    repeated c.args.kind c.args.primary seen cut c.is_not_here.ensures c.if-is_not_here.false all c.args.marks.now len
    are c.in-Some.is c.if-marks-place.true

pub returns-then-marks-place-clause-unmarked : goal.returns-then-marks-place-clause-unmarked
returns-then-marks-place-clause-unmarked c = tt

pub returns-in_default-colour-clause-judged : goal.returns-in_default-colour-clause-judged
returns-in_default-colour-clause-judged c = λ names text seen all len cut are.
    bare c.args.kind c.args.primary seen cut c.is_not_here.ensures c.if-is_not_here.false all c.args.marks.now len are
    c.in-Some.is c.if-marks-place.false c.in_default-colour.is

pub returns-then-item-primary-clause-judged : goal.returns-then-item-primary-clause-judged
returns-then-item-primary-clause-judged c = λ names text seen all len cut are.
    on-primary c.args.kind c.args.primary seen cut c.is_not_here.ensures c.if-is_not_here.false all c.args.marks.now len
    are c.in-Some.is c.if-marks-place.false c.in-Some-colour.is c.if-item-primary.true

pub returns-then-is_misfit-clause-judged : goal.returns-then-is_misfit-clause-judged
returns-then-is_misfit-clause-judged c = λ names text seen all len cut are.
    misfit c.args.kind c.args.primary seen cut c.is_not_here.ensures c.if-is_not_here.false all c.args.marks.now len are
    c.in-Some.is c.if-marks-place.false c.in-Some-colour.is c.if-item-primary.false
    (sym c.is_misfit.ensures ∙ c.if-is_misfit.true)

pub returns-clause-judged : goal.returns-clause-judged
returns-clause-judged c = λ names text seen all len cut are.
    coloured c.args.kind c.args.primary seen cut c.is_not_here.ensures c.if-is_not_here.false all c.args.marks.now len
    are c.in-Some.is c.if-marks-place.false c.in-Some-colour.is c.if-item-primary.false
    (sym c.is_misfit.ensures ∙ c.if-is_misfit.false)
