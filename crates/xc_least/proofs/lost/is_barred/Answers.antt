use Rattle.std.proofs.Common.{arith}
use Rattle.xc_least.proofs.HeldLemmas.{use_there}
use Rattle.xc_least.proofs.lost.is_barred.Goals as goal

pub is_barred_by-requires-clause-item : goal.is_barred_by-requires-clause-item
is_barred_by-requires-clause-item c =
    use_there c.uses_at-uses.result.now c.loop-u.u-index (record { item = 0; colour = 0 }) (omega arith)
