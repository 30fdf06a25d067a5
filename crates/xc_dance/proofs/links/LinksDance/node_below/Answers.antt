use Rattle.std.proofs.Common.{ℕ, reverse, get_or, ap, sym, subst, ◌∙◌}
use Rattle.xc_input.specs.Problem.{IsItem}
use Rattle.xc_dance.specs.inner.Tables.{Nodes}
use Rattle.xc_moves.specs.Commits.{IsListedAt}
use Rattle.xc_dance.specs.Linked.{Linked, dancing_of}
use Rattle.xc_moves.proofs.PlaceAnswers.{place_tells}
use Rattle.xc_dance.proofs.TableAnswers.{listed_within, listed_down}
use Rattle.xc_moves.specs.Moves.{listed_numbers}
use Rattle.xc_moves.specs.Places.{link_place, first_above}
use Rattle.xc_dance.proofs.links.LinksDance.node_below.Goals as goal
use Rattle.xc_dance.proofs.links.LinksDance.node_below.Goals.{After-self}

item : (c : After-self) → IsItem c.self.inside.fixed c.args.i
item c = subst (λ (s : Linked). IsItem s.puzzle c.args.i) (sym c.self.view_is) c.requires.item

at : (c : After-self) {x : ℕ} → IsListedAt c.args.self.now.puzzle c.args.self.now.trail c.args.i x c.args.place →
    IsListedAt c.self.inside.fixed (reverse c.self.inside.trail.items) c.args.i x c.args.place
at c {x} h = subst (λ (s : Linked). IsListedAt s.puzzle s.trail c.args.i x c.args.place) (sym c.self.view_is) h

pub dlink-requires : goal.dlink-requires
dlink-requires c =
    let here = (goal.at.dlink-requires c).After-self in
    rw c.self.invariant.nodes (listed_within c.self.invariant.fitted.laid (item here) (at here c.requires.place.1))

pub returns-clause-place : goal.returns-clause-place
returns-clause-place c = λ x h.
    let here = (goal.at.returns-clause-place c).After-self in
    c.dlink.ensures ∙ ap (λ (n : Nodes). get_or n.dlink c.args.place 0) c.self.invariant.nodes
    ∙ listed_down c.self.invariant.fitted.laid (item here) (at here h)
    ∙ ap (λ (s : Linked). link_place s.puzzle c.args.i (first_above 0 x (listed_numbers s.puzzle s.trail c.args.i)))
    c.self.view_is

pub returns-clause-option : goal.returns-clause-option
returns-clause-option c = λ x h.
    place_tells (dancing_of c.args.self.now) c.args.i x _ c.requires.item (returns-clause-place c x h)
