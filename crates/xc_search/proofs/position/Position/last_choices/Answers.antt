use Rattle.std.proofs.Common.{◌≡◌, length, sym, ap, ◌∙◌, arith}
use Rattle.xc_moves.specs.Dancing.{Dancing}
use Rattle.xc_moves.specs.Moves.{open_items, IsOpenPrimary}
use Rattle.xc_search.specs.inner.Levels.{IsEven}
use Rattle.xc_search.proofs.BranchLemmas.{last_counted}
use Rattle.xc_search.proofs.position.Position.last_choices.Goals as goal

pub returns : goal.returns
returns g c =
    let p = c.args.self.now.puzzle in
    let t = c.args.self.now.trail in
    let i = c.in_ok-first.first in
    let same : p ≡ c.self.inside.problem.now.puzzle = ap (λ (d : Dancing). d.puzzle) (sym c.self.view_is)
    ∙ c.self.invariant.same in
    let even : IsEven p c.self.inside.each_holds =
    rw same (c.self.invariant.even (omega (arith, c.if-self-eq0.false))) in
    let few : length (open_items p t) ≡ c.self.inside.each_holds = rw (← c.self.view_is) c.in_ok-first.ensures.many in
    let at : IsOpenPrimary p t i = rw (← c.self.view_is) c.in_ok-first.ensures.open in
    (rw c.self.view_is at c.len.ensures) ∙ last_counted p t _ i even c.requires few at
