use Rattle.std.proofs.Common.{◌-◌, ◌≤◌}
use Rattle.xc_search.proofs.ResidualLemmas.{CountsTo}
use Rattle.xc_search.proofs.branch_item.first_of_open.Given as goal

abbrev pub invariant-loop-seen : goal.invariant-loop-seen
invariant-loop-seen g l = record {
  counts : CountsTo (g.D.Dance.state l.dance).puzzle (g.D.Dance.state l.dance).trail l.at l.seen;
  within : l.seen ≤ l.many;
}

abbrev pub decreases-loop-seen : goal.decreases-loop-seen
decreases-loop-seen g l = l.many - l.seen
