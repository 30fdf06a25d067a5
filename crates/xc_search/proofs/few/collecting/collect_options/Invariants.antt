use Rattle.std.proofs.Common.{◌-◌, ◌+◌}
use Rattle.std.specs.Prelude.{unwrap_or}
use Rattle.xc_input.specs.Problem.{option_count, primary_count}
use Rattle.xc_moves.specs.Commits.{option_at}
use Rattle.xc_search.proofs.CollectLemmas.{AreTakenUpTo, AreTakenWithin}
use Rattle.xc_search.proofs.few.collecting.collect_options.Given as goal

abbrev pub invariant-loop-i : goal.invariant-loop-i
invariant-loop-i g l =
    let s = g.D.Dance.state l.dance in AreTakenUpTo s.puzzle s.trail l.at l.options l.into

abbrev pub decreases-loop-i : goal.decreases-loop-i
decreases-loop-i g l = primary_count (g.D.Dance.state l.dance).puzzle - l.at

abbrev pub invariant-loop-place : goal.invariant-loop-place
invariant-loop-place g l =
    let s = g.D.Dance.state l.dance in AreTakenWithin s.puzzle s.trail l.i l.options l.into l.place

abbrev pub decreases-loop-place : goal.decreases-loop-place
decreases-loop-place g l =
    let p = (g.D.Dance.state l.dance).puzzle in
    option_count p + 1 - unwrap_or (option_at p l.i l.place) (option_count p + 1)
