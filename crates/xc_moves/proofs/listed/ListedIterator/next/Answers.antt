use Rattle.std.proofs.Common.{sym, ◌∙◌, arith}
use Rattle.xc_moves.proofs.PlaceAnswers.{next_contained}
use Rattle.xc_moves.specs.Moves.{listed_numbers}
use Rattle.xc_moves.proofs.MoveLemmas.{next_above-split, next_above-none, rises_listed}
use mathlib.Core.Logic.{inr}
use Rattle.xc_moves.proofs.listed.ListedIterator.next.Goals as goal

pub invariant_of-self : goal.invariant_of-self
invariant_of-self g c = record {
  item = c.self.invariant.item;
  last = inr (next_contained _ _ _ (sym c.after-next.ensures ∙ c.in-Some.is));
}

pub returns-in-Some-clause-steps : goal.returns-in-Some-clause-steps
returns-in-Some-clause-steps g c =
    let d = g.D.Dance.state c.self.inside.dance.now in
    sym c.self.view_is
    ∙ next_above-split 0 c.self.inside.last c.in-Some.o (listed_numbers d.puzzle d.trail c.self.inside.item)
    (rises_listed d.puzzle d.trail c.self.inside.item) (sym c.after-next.ensures ∙ c.in-Some.is)

pub returns-in-Some-clause-goes : goal.returns-in-Some-clause-goes
returns-in-Some-clause-goes g c = grind (arith, returns-in-Some-clause-steps)

pub returns-in-None-clause-steps : goal.returns-in-None-clause-steps
returns-in-None-clause-steps g c =
    let d = g.D.Dance.state c.self.inside.dance.now in
    let e = next_above-none c.self.inside.last (listed_numbers d.puzzle d.trail c.self.inside.item) in
    grind arith
