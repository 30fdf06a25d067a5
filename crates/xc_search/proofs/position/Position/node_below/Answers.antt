use Rattle.std.proofs.Common.{arith}
use Rattle.std.proofs.Common.{◌≡◌, subst}
use Rattle.xc_moves.specs.Dancing.{Dancing}
use Rattle.xc_moves.specs.Places.{link_place, first_above}
use Rattle.xc_moves.specs.Moves.{listed_numbers}
use Rattle.xc_moves.specs.Commits.{IsListedAt}
use Rattle.xc_search.proofs.position.Position.node_below.Goals as goal

pub returns-clause-place : goal.returns-clause-place
returns-clause-place g c x h =
    let i = c.args.i in
    subst (λ (s : Dancing). IsListedAt s.puzzle s.trail i x c.args.place
    → c.node_below.result ≡ link_place s.puzzle i (first_above 0 x (listed_numbers s.puzzle s.trail i)))
    c.self.view_is (c.node_below.ensures.place x) h

pub returns-clause-option : goal.returns-clause-option
returns-clause-option g c x h = grind (arith)
