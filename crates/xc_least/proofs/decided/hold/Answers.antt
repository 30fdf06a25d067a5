use Rattle.std.proofs.Common.{arith, List, ◌≤◌, ◌+◌, get_or, eqb, subst}
use Rattle.std.proofs.lemmas.List.{take_all}
use Rattle.std.specs.Prelude.{count_by}
use Rattle.xc_input.specs.declared.problem.Use.{Use}
use Rattle.xc_least.proofs.HeldLemmas.{count_more}
use Rattle.xc_least.proofs.decided.hold.Goals as goal

pub loop-u-preserved : goal.loop-u-preserved
loop-u-preserved c = λ i.
    omega (
      arith,
      c.hold_one.ensures i,
      c.loop-u.invariant i,
      count_more c.args.uses.now c.loop-u.u-index (record { item = 0; colour = 0 }) i (omega arith),
    )

pub returns : goal.returns
returns c = λ i.
    subst (λ (us : List Use). get_or c.loop-u.held.items i 0
    ≤ get_or c.args.held.now.items i 0 + count_by (λ (u : Use). eqb u.item i) us)
    (take_all c.loop-u.u-index c.args.uses.now (omega arith)) (c.loop-u.invariant i)
