-- The invariant is `IsCommitting`: of the option at `place`, the uses whose nodes stand before q were committed, in
-- their order. `led` says that the spacer's ULINK is the option's first node, where the walk begins (`along_first`).
-- `next` says that the node at q is that of the next use, which may be committed (`may`) and then is (`one_more`). When
-- q comes to `place`, all uses before it were committed (`whole`).
use Rattle.xc_dance.proofs.TableAnswers.{along_first, before_at, Leads, leads, IsNext, nodes_told, whole, may, one_more}
use Rattle.std.proofs.Common.{◌≡◌, ◌-◌, ℕ, get_or, ap, ◌∙◌, arith, refl}
use Rattle.std.proofs.lemmas.List.{length-map}
use Rattle.xc_dance.specs.inner.Tables.{Nodes, nodes_after, uses_before}
use Rattle.xc_moves.specs.inner.Uses.{start_at}
use Rattle.xc_moves.specs.Commits.{IsUseAt}
use Rattle.xc_dance.proofs.links.Links.commit_before.Goals as goal
use Rattle.xc_dance.proofs.links.Links.commit_before.Goals.{After-self, After-self-in-loop-q}

first_nodes : (c : After-self) → c.self.inside.nodes.cells ≡ nodes_after c.args.self.now.puzzle c.args.self.now.trail
first_nodes c = nodes_told c.self.invariant.nodes c.self.view_is refl

-- where the spacer leads
led : (c : After-self) (x : ℕ) → IsUseAt c.args.self.now.puzzle c.args.i x c.args.place →
    Leads c.args.self.now.puzzle x c.args.place c.args.end c.args.self.now.trail
led c x held = leads _ held (c.requires.end x held)

pub ulink-first-requires : goal.ulink-first-requires
ulink-first-requires c =
    let here = (goal.at.ulink-first-requires c).After-self in
    let within = (led here _ c.requires.can.1).within in rw (first_nodes here) (simp length-map within)

-- the walk begins at the option's first node
pub loop-q-init : goal.loop-q-init
loop-q-init c =
    let s = (goal.at.loop-q-init c).After-self in
    let to = c.ulink-first.ensures ∙ ap (λ (n : Nodes). get_or n.ulink c.args.end 0) (first_nodes s) in
    record {
      puzzle = refl;
      room = refl;
      undone = refl;
      capacity = refl;
      written = refl;
      along = λ x h. along_first _ _ _ _ _ (to ∙ (led s x h).first);
    }

nodes_is : (c : After-self-in-loop-q) → c.self-in-loop-q.inside.nodes.cells
    ≡ nodes_after c.args.self.now.puzzle c.loop-q.self.trail
nodes_is c = nodes_told c.self-in-loop-q.invariant.nodes c.self-in-loop-q.view_is c.loop-q.invariant.puzzle

pub top-j-requires : goal.top-j-requires
top-j-requires c =
    let at = goal.at.top-j-requires c in
    let led = led at.After-self _ c.requires.can.1 in
    rw (nodes_is at.After-self-in-loop-q) (simp length-map (omega (arith, led.within, led.behind, c.loop-q-test.true)))

-- the next use
next : (c : After-self-in-loop-q) (x : ℕ) → IsUseAt c.args.self.now.puzzle c.args.i x c.args.place →
    IsNext c.args.self.now.puzzle x (start_at c.args.self.now.puzzle (x - 1))
    (uses_before c.args.self.now.puzzle c.args.i x) c.args.self.now.trail c.loop-q.self.trail c.loop-q.q
next c x held = (before_at held (c.loop-q.invariant.along x held)).node c.loop-q-test.true

pub commit_node-requires : goal.commit_node-requires
commit_node-requires c =
    let here = (goal.at.commit_node-requires c).After-self-in-loop-q in
    let is = c.top-j.ensures ∙ ap (λ (n : Nodes). get_or n.top c.loop-q.q 0) (nodes_is here) in
    record { node = may c.loop-q.invariant (next here _ c.requires.can.1) is c.requires.can.2 }

pub loop-q-preserved : goal.loop-q-preserved
loop-q-preserved c =
    let here = (goal.at.loop-q-preserved c).After-self-in-loop-q in
    let is = c.top-j.ensures ∙ ap (λ (n : Nodes). get_or n.top c.loop-q.q 0) (nodes_is here) in
    one_more _ c.loop-q.invariant c.requires.can.1 (next here) is c.commit_node.ensures.committed
    c.commit_node.ensures.written c.commit_node.ensures.memory

pub returns-clause-committed : goal.returns-clause-committed
returns-clause-committed c = λ x held. whole _ _ _ c.loop-q.self c.loop-q.invariant.puzzle c.loop-q.invariant.room
    c.loop-q.invariant.undone ((before_at held (c.loop-q.invariant.along x held)).end c.loop-q-test.false)
