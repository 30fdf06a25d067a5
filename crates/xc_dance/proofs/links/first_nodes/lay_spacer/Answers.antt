use Rattle.std.proofs.Common.{◌∙◌, ap}
use Rattle.std.specs.Prelude.{slice_get}
use Rattle.xc_moves.specs.Places.{layout}
use Rattle.xc_moves.proofs.PlaceLemmas.{spacer_here}
use Rattle.xc_dance.proofs.WholeTables.{laid_room, laid_more, spacer_row}
use Rattle.xc_dance.proofs.links.first_nodes.lay_spacer.Goals as goal

pub lay-requires : goal.lay-requires
lay-requires c =
    let at = ap (slice_get (layout c.args.problem.now.puzzle)) c.requires.place ∙ spacer_here _ _ c.requires.option in
    rw c.requires.before (laid_room _ _ at)

pub returns : goal.returns
returns c =
    let at = ap (slice_get (layout c.args.problem.now.puzzle)) c.requires.place ∙ spacer_here _ _ c.requires.option in
    laid_more _ _ c.lay.ensures c.requires.before at (spacer_row _ _ c.requires.above c.last_node-below.ensures)
