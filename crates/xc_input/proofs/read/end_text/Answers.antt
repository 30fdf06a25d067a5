use Rattle.xc_text.proofs.LineLemmas.{lines_of-ended}
use Rattle.xc_input.proofs.LineLemmas.{ends-as, line-ends, last-part}
use Rattle.std.proofs.lemmas.List.{nil_from_length}
use Rattle.std.proofs.Common.{append-nil}
use Rattle.std.proofs.Common.{◌≡◌, ◌<◌, length, arith, refl}
use Rattle.std.proofs.lemmas.Bool.Decides.{nat_tests}
use Rattle.std.proofs.lemmas.Result.{err_from_is_err_and}
use Rattle.xc_input.proofs.read.end_text.Goals as goal

-- behind a line feed
pub returns-then-is_empty-clause-answer : goal.returns-then-is_empty-clause-answer
returns-then-is_empty-clause-answer c =
    let f = c.finish.ensures in
    let none : length c.args.carry.now ≡ 0 = grind (arith, nat_tests) in
    ends-as _ _ _ _ _ refl (grind (arith, lines_of-ended, nil_from_length, append-nil))
    (record { accepted = f.accepted; only = f.only; first = f.first; refused = f.refused })

pub returns-in_err-line-clause-answer : goal.returns-in_err-line-clause-answer
returns-in_err-line-clause-answer c =
    let error = err_from_is_err_and c.from_residual.result c.from_residual.ensures.1 in
    let some : 0 < length c.args.carry.now = grind (arith, c.if-is_empty.false, c.is_empty.ensures) in
    rw (error.1, error.2) (ends-as _ _ _ _ _ c.in_err-line.ensures.kind
    (last-part c.args.reader c.args.carry.now _ c.requires some c.in_err-line.ensures.given)
    (line-ends _ _ c.in_err-line.field-0.0 c.in_err-line.ensures.state))

-- behind a last line
pub returns-clause-answer : goal.returns-clause-answer
returns-clause-answer c =
    let f = c.finish-2.ensures in
    let some : 0 < length c.args.carry.now = grind (arith, nat_tests) in
    ends-as _ _ _ _ _ c.in_ok-line.ensures.kind
    (last-part c.args.reader c.args.carry.now _ c.requires some c.in_ok-line.ensures.given)
    (record { accepted = f.accepted; only = f.only; first = f.first; refused = f.refused })
