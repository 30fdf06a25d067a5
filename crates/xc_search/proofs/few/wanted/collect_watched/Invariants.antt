use Rattle.std.proofs.Common.{◌-◌}
use Rattle.xc_input.specs.Problem.{primary_count}
use Rattle.xc_search.proofs.WatchedLemmas.{AreWatchedTo}
use Rattle.xc_search.proofs.few.wanted.collect_watched.Given as goal

abbrev pub invariant-loop-i : goal.invariant-loop-i
invariant-loop-i g l =
    AreWatchedTo l.problem.puzzle (g.D.Dance.state l.dance).trail l.options l.most l.at l.items l.into

abbrev pub decreases-loop-i : goal.decreases-loop-i
decreases-loop-i g l = primary_count l.problem.puzzle - l.at
