use Rattle.std.proofs.Common.{◌-◌}
use Rattle.xc_input.specs.Problem.{primary_count}
use Rattle.xc_search.proofs.branch_item.first_fewest.Given as goal
use Rattle.xc_search.proofs.ResidualLemmas.{WalksTo}

abbrev pub invariant-loop-next : goal.invariant-loop-next
invariant-loop-next g l = WalksTo l.problem.puzzle (g.D.Dance.state l.dance).trail l.item l.branches l.at

abbrev pub decreases-loop-next : goal.decreases-loop-next
decreases-loop-next g l = primary_count l.problem.puzzle - l.at
