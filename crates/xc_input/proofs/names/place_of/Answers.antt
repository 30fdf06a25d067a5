use Rattle.std.proofs.Common.{arith}
use Rattle.xc_input.proofs.FaultLemmas.{position-map}
use Rattle.xc_input.proofs.names.place_of.Goals as goal

pub returns : goal.returns
returns c = grind (arith, position-map)
