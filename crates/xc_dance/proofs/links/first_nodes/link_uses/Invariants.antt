use Rattle.std.proofs.Common.{◌≡◌, [], take}
use Rattle.xc_moves.specs.Places.{layout}
use Rattle.xc_dance.specs.inner.Tables.{nodes_from, color_in}
use Rattle.xc_dance.proofs.WholeTables.{lines_of}
use Rattle.xc_dance.proofs.links.first_nodes.link_uses.Given as goal

-- the uses' nodes so far stand in their lists
abbrev pub invariant-loop-q : goal.invariant-loop-q
invariant-loop-q l =
    l.nodes.cells ≡ nodes_from l.problem.puzzle (lines_of (take l.q (layout l.problem.puzzle)))
    (color_in l.problem.puzzle [])
