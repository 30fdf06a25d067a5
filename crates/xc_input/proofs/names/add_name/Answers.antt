use Rattle.xc_input.proofs.FaultLemmas.{no-place, position-map, last-place, new-key}
use Rattle.std.proofs.Common.{arith}
use Rattle.xc_input.proofs.names.add_name.Goals as goal

pub returns-clause-added : goal.returns-clause-added
returns-clause-added c = new-key _ _ _ _ c.requires c.in_ok-key.ensures.items c.in_ok-n.ensures.keys

pub returns-clause-place : goal.returns-clause-place
returns-clause-place c = grind (arith, no-place, position-map, last-place)
