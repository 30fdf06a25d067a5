use Rattle.std.proofs.Common.{◌<◌, ◌-◌, arith}
use Rattle.std.proofs.lemmas.Bool.Decides.{nat_tests}
use Rattle.xc_none.proofs.WeightsLemmas.{weighed}
use Rattle.xc_none.proofs.weights.is_refuted.Goals as goal

pub returns-then-most-least : goal.returns-then-most-least
returns-then-most-least c = λ e s cover.
    let few : c.in-Some-beyond.beyond < c.in-Some.least - c.in-Some-allowed.most = grind (arith, nat_tests, e) in
    omega (
      arith,
      few,
      c.in-Some.ensures.sum,
      c.in-Some-allowed.ensures,
      c.in-Some-beyond.ensures,
      weighed c.args.problem.now.puzzle c.asked.ensures.whole.valid s cover c.args.weights.now,
    )
