use Rattle.xc_moves.specs.Moves.{IsOpenPrimary}
use Rattle.xc_search.proofs.branch_item.without_branches.Given as goal

abbrev pub invariant-loop : goal.invariant-loop
invariant-loop g l = IsOpenPrimary l.problem.puzzle (g.D.Dance.state l.dance).trail l.at
