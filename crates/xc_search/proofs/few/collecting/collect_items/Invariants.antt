use Rattle.std.proofs.Common.{◌-◌}
use Rattle.xc_input.specs.Problem.{primary_count}
use Rattle.xc_search.proofs.CollectLemmas.{AreUpTo}
use Rattle.xc_search.proofs.few.collecting.collect_items.Given as goal

abbrev pub invariant-loop-i : goal.invariant-loop-i
invariant-loop-i g l =
    AreUpTo (g.D.Dance.state l.dance).puzzle (g.D.Dance.state l.dance).trail l.at l.items l.total l.into

abbrev pub decreases-loop-i : goal.decreases-loop-i
decreases-loop-i g l = primary_count (g.D.Dance.state l.dance).puzzle - l.at
