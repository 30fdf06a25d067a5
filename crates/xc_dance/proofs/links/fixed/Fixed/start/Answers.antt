use Rattle.std.proofs.Common.{arith}
use Rattle.std.proofs.lemmas.List.FromFn.{get_or-map-range_with_len, length-map-range_with_len}
use Rattle.xc_dance.proofs.links.fixed.Fixed.start.Goals as goal

pub index-requires : goal.index-requires
index-requires c = grind (arith, length-map-range_with_len)

pub returns : goal.returns
returns c = grind (arith, get_or-map-range_with_len)
