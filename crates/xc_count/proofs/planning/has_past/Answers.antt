use Rattle.std.proofs.Common.{arith}
use Rattle.xc_input.specs.declared.problem.Use.{Use}
use Rattle.xc_count.proofs.PlanLemmas.{use_there}
use Rattle.xc_count.proofs.planning.has_past.Goals as goal

pub returns-then-is_past : goal.returns-then-is_past
returns-then-is_past c = λ e.
    let d : Use = record { item = 0; colour = 0 } in
    (_, c.is_past.ensures c.if-is_past.true, use_there c.args.uses.now c.loop-u.u-index d (omega arith))
