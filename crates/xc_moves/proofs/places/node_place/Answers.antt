use Rattle.std.proofs.Common.{arith}
use Rattle.xc_moves.proofs.PlaceLemmas.{UseStands, use_stands}
use Rattle.xc_moves.proofs.places.node_place.Goals.{After-place_in}
use Rattle.xc_moves.proofs.places.node_place.Goals as goal

stands : (c : After-place_in) →
    UseStands c.args.problem.now.puzzle c.args.i c.args.o c.first_place.result c.place_in.result
stands c = search (arith, use_stands)

pub overflow_cast-result : goal.overflow_cast-result
overflow_cast-result c = let s = stands c in omega (arith, s.small)

pub overflow_add-result : goal.overflow_add-result
overflow_add-result c = let s = stands c in omega (arith, s.small)

pub returns : goal.returns
returns c = (stands (goal.at.returns c).After-place_in).is
