-- The invariant is `IsCommitting`: of the option at `place`, the uses behind it whose nodes stand before q were
-- committed, in their order. `found` says what stands at q by the walk so far: where TOP is small, the next use
-- (`next`), which may be committed (`may`) and then is (`one_more`); else the spacer, and then all were committed
-- (`whole`). The walk ends, as q rises and stays within the nodes (`loop-self-smaller`).
use Rattle.xc_dance.specs.inner.Walks.{IsFitted}
use Rattle.xc_dance.specs.inner.Tables.{spans_of, Nodes, nodes_after, IsLaid, uses_behind}
use Rattle.std.proofs.Common.{◌≡◌, ◌<◌, ◌+◌, ℕ, length, get_or, ap, subst, ◌∙◌, arith, refl}
use Rattle.std.proofs.lemmas.List.{length-map}
use Rattle.xc_moves.specs.Commits.{IsUseAt}
use Rattle.xc_dance.specs.Linked.{Linked}
use Rattle.xc_dance.proofs.TableAnswers.{along_first, Behind, behind_at, IsNext, top_at, nodes_told, whole, may}
use Rattle.xc_dance.proofs.TableAnswers.{one_more}
use Rattle.xc_dance.proofs.links.Links.commit_behind.Goals as goal
use Rattle.xc_dance.proofs.links.Links.commit_behind.Goals.{After-self, After-self-in-loop-self}
use Rattle.xc_dance.specs.declared.links.cells.marks.TheConstants.{SPACER}

fitted : (c : After-self) → IsFitted c.args.self.now.puzzle (spans_of c.args.self.now.puzzle)
fitted c = subst (λ (s : Linked). IsFitted s.puzzle (spans_of s.puzzle)) c.self.view_is c.self.invariant.fitted

-- where the walk begins
begun : (c : After-self) → Behind c.args.self.now.puzzle c.args.i c.requires.0 c.args.place c.args.self.now.trail
    c.args.self.now.trail (c.args.place + 1)
begun c = behind_at (fitted c).laid c.requires.1 (along_first _ _ _ _ _ refl)

pub overflow_add-q : goal.overflow_add-q
overflow_add-q c = grind (arith, begun, fitted)

pub loop-self-init : goal.loop-self-init
loop-self-init c = grind (arith, along_first)

-- what stands at q
found : (c : After-self-in-loop-self) (x : ℕ) → IsUseAt c.args.self.now.puzzle c.args.i x c.args.place →
    Behind c.args.self.now.puzzle c.args.i x c.args.place c.args.self.now.trail c.loop-self.self.trail c.loop-self.q
found c x held =
    behind_at (subst (λ (s : Linked). IsLaid s.puzzle) c.self.view_is c.self.invariant.fitted.laid) held
    (c.loop-self.invariant.along x held)

nodes_is : (c : After-self-in-loop-self) → c.self-in-loop-self.inside.nodes.cells
    ≡ nodes_after c.args.self.now.puzzle c.loop-self.self.trail
nodes_is c = nodes_told c.self-in-loop-self.invariant.nodes c.self-in-loop-self.view_is c.loop-self.invariant.puzzle

at_top : (c : After-self-in-loop-self) → c.loop-self.q < length c.self-in-loop-self.inside.nodes.cells.top
at_top c = grind (arith, found c c.requires.0 c.requires.1, length-map, nodes_is c)

top_is : (c : After-self-in-loop-self) → get_or c.self-in-loop-self.inside.nodes.cells.top c.loop-self.q 0
    ≡ top_at c.args.self.now.puzzle c.loop-self.self.trail c.loop-self.q
top_is c = ap (λ (n : Nodes). get_or n.top c.loop-self.q 0) (nodes_is c)

pub top-requires : goal.top-requires
top-requires c = at_top (goal.at.top-requires c).After-self-in-loop-self

pub top-j-requires : goal.top-j-requires
top-j-requires c = at_top (goal.at.top-j-requires c).After-self-in-loop-self

-- the next use, where TOP isn't that of a spacer
next : (c : After-self-in-loop-self) → get_or c.self-in-loop-self.inside.nodes.cells.top c.loop-self.q 0 < SPACER
    → (x : ℕ)
    → IsUseAt c.args.self.now.puzzle c.args.i x c.args.place →
    IsNext c.args.self.now.puzzle x (c.args.place + 1) (uses_behind c.args.self.now.puzzle c.args.i x)
    c.args.self.now.trail c.loop-self.self.trail c.loop-self.q
next c low x held = let is = top_is c in (found c x held).node (omega (arith, is, low))

pub commit_node-requires : goal.commit_node-requires
commit_node-requires c =
    let here = (goal.at.commit_node-requires c).After-self-in-loop-self in
    let next = next here (omega (arith, c.top.ensures, c.loop-self-test.true)) _ c.requires.1 in
    record { node = may c.loop-self.invariant next (c.top-j.ensures ∙ top_is here) c.requires.2 }

pub overflow_add-q-in-loop-self : goal.overflow_add-q-in-loop-self
overflow_add-q-in-loop-self c =
    let at = goal.at.overflow_add-q-in-loop-self c in
    let within = (found at.After-self-in-loop-self _ c.requires.1).within in
    let near = (fitted at.After-self).fit.near in omega (arith, within, near)

pub loop-self-smaller : goal.loop-self-smaller
loop-self-smaller c = omega (arith, (found (goal.at.loop-self-smaller c).After-self-in-loop-self _ c.requires.1).within)

pub loop-self-preserved : goal.loop-self-preserved
loop-self-preserved c =
    let here = (goal.at.loop-self-preserved c).After-self-in-loop-self in
    one_more _ c.loop-self.invariant c.requires.1 (next here (omega (arith, c.top.ensures, c.loop-self-test.true)))
    (c.top-j.ensures ∙ top_is here) c.commit_node.ensures.committed c.commit_node.ensures.written
    c.commit_node.ensures.memory

pub returns-clause-committed : goal.returns-clause-committed
returns-clause-committed c = λ x held.
    let here = (goal.at.returns-clause-committed c).After-self-in-loop-self in
    let is = top_is here in
    let end = (found here x held).end (omega (arith, is, c.top.ensures, c.loop-self-test.false)) in (
      whole _ _ _ c.loop-self.self c.loop-self.invariant.puzzle c.loop-self.invariant.room
          c.loop-self.invariant.undone end.0,
      end.1,
    )
