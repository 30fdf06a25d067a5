use Rattle.std.proofs.Common.{arith, List, ◌≤◌, ◌-◌, get_or, subst}
use Rattle.std.proofs.lemmas.List.{take_all}
use Rattle.xc_input.specs.declared.problem.Use.{Use}
use Rattle.xc_least.specs.inner.Held.{once_if_held}
use Rattle.xc_least.proofs.HeldLemmas.{once_more}
use Rattle.xc_least.proofs.decided.release.Goals as goal

pub loop-u-preserved : goal.loop-u-preserved
loop-u-preserved c = λ i.
    omega (
      arith,
      c.release_one.ensures i,
      c.loop-u.invariant i,
      once_more c.args.uses.now c.loop-u.u-index (record { item = 0; colour = 0 }) i (omega arith),
    )

pub returns : goal.returns
returns c = λ i.
    subst (λ (us : List Use). get_or c.loop-u.held.items i 0 ≤ get_or c.args.held.now.items i 0 - once_if_held us i)
    (take_all c.loop-u.u-index c.args.uses.now (omega arith)) (c.loop-u.invariant i)
