use Rattle.std.proofs.Common.{◌≡◌, ℕ, ap, subst, sym, arith, refl}
use Rattle.std.proofs.lemmas.List.{length-map}
use Rattle.xc_input.specs.Problem.{primary_count}
use Rattle.xc_moves.specs.Commits.{IsUseAt}
use Rattle.xc_dance.specs.Linked.{Linked}
use Rattle.xc_dance.specs.inner.Tables.{Nodes, nodes_after, IsLaid}
use Rattle.xc_dance.proofs.TableAnswers.{nodes_told}
use Rattle.xc_dance.proofs.FirstItems.{Back, back_first, back_at}
use Rattle.xc_dance.proofs.links.LinksDance.is_first_at.Goals as goal
use Rattle.xc_dance.proofs.links.LinksDance.is_first_at.Goals.{At-loop-self}

nodes_is : (c : At-loop-self) → c.self.inside.nodes.cells ≡ nodes_after c.args.self.now.puzzle c.args.self.now.trail
nodes_is c = nodes_told c.self.invariant.nodes c.self.view_is refl

-- what TOP tells
back : (c : At-loop-self) (x : ℕ) → IsUseAt c.args.self.now.puzzle c.args._i x c.args.place
    → Back c.args.self.now.puzzle c.args._i x c.args.place c.self.inside.nodes.cells.top c.loop-self.before
back c x u = subst
    (λ (n : Nodes). Back c.args.self.now.puzzle c.args._i x c.args.place n.top c.loop-self.before)
    (sym (nodes_is c))
    (back_at c.args.self.now.trail
    (subst (λ (s : Linked). IsLaid s.puzzle) c.self.view_is c.self.invariant.fitted.laid) u
    (c.loop-self.invariant x u))

pub loop-self-init : goal.loop-self-init
loop-self-init c = λ x u. back_first _ u c.requires.item refl

pub top_at-j-requires : goal.top_at-j-requires
top_at-j-requires c =
    let here = (goal.at.top_at-j-requires c).At-loop-self in
    let within = (back here _ c.requires.place.1).within in rw (nodes_is here) (simp length-map within)

pub returns-then-j-ge-SPACER : goal.returns-then-j-ge-SPACER
returns-then-j-ge-SPACER c = λ x u.
    (back (goal.at.returns-then-j-ge-SPACER c).At-loop-self x u).spacer
    (omega (arith, c.top_at-j.ensures, c.if-j-ge-SPACER.true))

pub returns-then-j-primary : goal.returns-then-j-primary
returns-then-j-primary c = λ x u.
    let primary = ap (λ (s : Linked). primary_count s.puzzle) c.self.view_is in
    (back (goal.at.returns-then-j-primary c).At-loop-self x u).found
    (omega (arith, c.top_at-j.ensures, c.if-j-ge-SPACER.false))
    (omega (arith, c.top_at-j.ensures, c.if-j-primary.true, c.primary-primary.ensures, primary))

pub loop-self-preserved : goal.loop-self-preserved
loop-self-preserved c = λ x u.
    let primary = ap (λ (s : Linked). primary_count s.puzzle) c.self.view_is in
    (back (goal.at.loop-self-preserved c).At-loop-self x u).next
    (omega (arith, c.top_at-j.ensures, c.if-j-ge-SPACER.false))
    (omega (arith, c.top_at-j.ensures, c.if-j-primary.false, c.primary-primary.ensures, primary))
