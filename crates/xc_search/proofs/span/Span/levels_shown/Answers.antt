use Rattle.xc_search.proofs.BranchLemmas.{all_shown, shown_back}
use Rattle.xc_search.proofs.span.Span.levels_shown.Goals as goal

pub returns-then-self-clause-shown : goal.returns-then-self-clause-shown
returns-then-self-clause-shown g c =
    let at = c.self.inside.state in
    rw (← c.self.view_is) (shown_back at.position.puzzle c.levels.result.now
    (rw c.levels.ensures.levels (all_shown at.position.puzzle at.position.trail at.stack.levels
    c.self.invariant.stacked)))
