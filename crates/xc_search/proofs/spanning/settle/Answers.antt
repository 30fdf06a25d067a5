use Rattle.std.proofs.Common.{◌≡◌, [], refl}
use Rattle.xc_search.specs.Listing.{listing}
use Rattle.xc_search.specs.inner.Levels.{residual_of}
use Rattle.xc_search.proofs.BranchLemmas.{none_at_item}
use Rattle.xc_search.proofs.SpanSteps.{settles_here, settles_next, settles_nowhere, led_free, never_stuck}
use Rattle.xc_search.proofs.spanning.settle.Goals as goal
use Rattle.xc_search.proofs.spanning.settle.Goals.{After-resume}

none_left : (g : _) (c : After-resume g)
    → listing (residual_of c.args.state.now.position.puzzle c.args.state.now.position.trail) ≡ []
none_left g c =
    let legal = (c.requires.standing.searchable refl).legal in
    let choice = c.is_stuck.ensures.stuck c.if-not-is_stuck.false in
    none_at_item _ _ choice.0 legal choice.1

pub returns-then-not-is_stuck : goal.returns-then-not-is_stuck
returns-then-not-is_stuck g c =
    let legal = (c.requires.standing.searchable refl).legal in
    settles_here c.requires.standing (led_free _ _ _ _ c.requires.led
    (never_stuck _ _ legal (c.is_stuck.ensures.free c.if-not-is_stuck.true)))

pub returns-in_default : goal.returns-in_default
returns-in_default g c =
    let none = none_left g (goal.at.returns-in_default g c).After-resume in
    settles_nowhere (c.resume.ensures.done (rw c.in_default.is refl)) none

pub returns : goal.returns
returns g c =
    let next = c.in-Some.ensures in
    let none = none_left g (goal.at.returns g c).After-resume in
    rw c.commit_branch.ensures
    (settles_next next.resumed next.resumed_items next.resumed_row c.requires.led none)
