use Rattle.std.proofs.Common.{arith}
use Rattle.std.proofs.lemmas.Grind.{common_steps}
use Rattle.std.proofs.lemmas.List.{map-set, get_or-map}
use Rattle.xc_dance.proofs.lists.undo_log.insert.Goals as goal
use Rattle.std.proofs.Common.{vec_capacity}
use Rattle.std.proofs.Math.Seq.{map-set_same}

pub returns : goal.returns
returns c = grind (arith, common_steps, get_or-map, map-set, map-set_same, vec_capacity)
