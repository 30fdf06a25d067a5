use Rattle.std.proofs.Common.{arith}
use Rattle.xc_input.proofs.FaultLemmas.{items-length}
use Rattle.xc_list.proofs.OutputLemmas.{laid-count, padded_part}
use Rattle.xc_list.proofs.bodies.span_of.Goals as goal

pub index-requires : goal.index-requires
index-requires c = grind (arith, items-length, laid-count)

pub index-requires-2 : goal.index-requires-2
index-requires-2 c = grind (arith, items-length, laid-count)

pub overflow_sub-result : goal.overflow_sub-result
overflow_sub-result c =
    (padded_part _ _ _ _ c.args.o _ _ c.requires.laid c.requires.known c.index.ensures c.index-2.ensures).0

pub returns : goal.returns
returns c =
    let part = padded_part _ _ _ _ c.args.o _ _ c.requires.laid c.requires.known c.index.ensures c.index-2.ensures in
    record { text = part.2; within = omega (arith, part.0, part.1); few = omega (arith, part.0) }
