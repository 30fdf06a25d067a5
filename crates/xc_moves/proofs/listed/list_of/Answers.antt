use Rattle.std.proofs.Common.{arith}
use Rattle.xc_moves.proofs.MoveLemmas.{above_all, rises_listed}
use Rattle.xc_moves.proofs.listed.list_of.Goals as goal

pub returns : goal.returns
returns g c = search (arith, above_all, rises_listed)
