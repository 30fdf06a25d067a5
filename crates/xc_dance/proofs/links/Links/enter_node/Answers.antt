use Rattle.std.proofs.Common.{◌≡◌, ◌<◌, ℕ, true, Some, cond, eqb, List, ◌∷◌, length, reverse, get_or, ap, sym, subst}
use Rattle.std.proofs.Common.{◌∙◌, arith}
use Rattle.std.specs.Prelude.{slice_get}
use Rattle.xc_input.specs.declared.problem.Use.{Use}
use Rattle.xc_input.specs.Problem.{IsItem, primary_count}
use Rattle.xc_moves.specs.declared.dance.Move.{Move}
use Rattle.xc_moves.specs.declared.dance.Move.TheVariants.{Cover, Purify}
use Rattle.xc_dance.specs.inner.Tables.{Nodes}
use Rattle.xc_moves.specs.Commits.{after_use}
use Rattle.xc_moves.specs.Dancing.{Dancing}
use Rattle.xc_dance.specs.Linked.{Linked}
use Rattle.xc_moves.specs.Moves.{is_open}
use Rattle.xc_moves.specs.Places.{layout, used}
use Rattle.xc_dance.proofs.TableAnswers.{use_item, colour_within, committed_open, still_covers}
use Rattle.xc_dance.proofs.links.Links.enter_node.Goals as goal
use Rattle.xc_dance.proofs.links.Links.enter_node.Goals.{After-self}

node_at : (c : After-self) {o : ℕ} {u : Use} → slice_get (layout c.args.self.now.puzzle) c.args.q ≡ Some (used o u) →
    slice_get (layout c.self.inside.fixed) c.args.q ≡ Some (used o u)
node_at c at = ap (λ (s : Linked). slice_get (layout s.puzzle) c.args.q) c.self.view_is ∙ at

pub is_open-requires : goal.is_open-requires
is_open-requires c =
    let n = c.requires.node in
    subst (λ (s : Linked). IsItem s.puzzle c.args.j) c.self.view_is
    (use_item c.args.q c.self.invariant.fitted.laid (node_at ((goal.at.is_open-requires c).After-self) n.1.1) n.1.2)

pub color-colour-requires : goal.color-colour-requires
color-colour-requires c =
    let here = (goal.at.color-colour-requires c).After-self in
    subst (λ (t : Nodes). c.args.q < length t.color) (sym c.self.invariant.nodes)
    (colour_within _ (reverse c.self.inside.trail.items) _ (node_at here c.requires.node.1.1))

pub returns-then-is_open-clause-covers : goal.returns-then-is_open-clause-covers
returns-then-is_open-clause-covers c = λ o u at item.
    let here = (goal.at.returns-then-is_open-clause-covers c).After-self in
    let t : List Move = reverse c.self.inside.trail.items in
    let j = c.args.j in
    let k = c.color-colour.result in
    let high : primary_count c.self.inside.fixed < j = omega (arith, c.primary.ensures, c.if-j-primary.false) in
    let open_there = ap (λ (s : Linked). is_open j s.trail) c.self.view_is in
    let still : is_open j t ≡ true = open_there ∙ sym c.is_open.ensures ∙ c.if-is_open.true in
    let read = c.color-colour.ensures ∙ ap (λ (n : Nodes). get_or n.color c.args.q 0) c.self.invariant.nodes in
    let moves = subst (λ (s : Linked). cond (eqb k 0) (Cover j) (Purify j k) ∷ s.trail ≡ after_use s.puzzle u s.trail)
    c.self.view_is (committed_open _ _ _ (node_at here at) item high still read) in
    let done = ap (λ (d : Dancing). d.trail) c.purify_coloured.ensures.purified in
    sym moves ∙ still_covers _ _ _ c.purify_coloured.ensures.plain done
