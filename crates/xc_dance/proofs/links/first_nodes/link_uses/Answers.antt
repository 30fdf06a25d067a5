-- The invariant: the table is the first one (`nodes_from`) of the options whose nodes stand before q. `step` says by
-- what stands at q that a node with a small TOP is that of a use, which is entered (`use_step`), and another one a
-- spacer, which changes nothing (`spacer_step`). At the end all options are in (`all_entered`).
use Rattle.xc_dance.proofs.WholeTables.{nodes_same, held_none, spacer_step, lines_of, UseStep, use_step, spacer_top}
use Rattle.xc_dance.proofs.WholeTables.{all_entered}
use Rattle.std.proofs.Common.{arith, ◌≡◌, ◌≤◌, ◌<◌, ◌∙◌, ◌+◌, ap, take, Some, [], ℕ}
use Rattle.std.proofs.lemmas.Grind.{common_steps}
use Rattle.std.specs.Prelude.{slice_get, slice_index}
use Rattle.xc_input.specs.declared.problem.Use.{Use}
use Rattle.xc_input.specs.Problem.{Puzzle, item_count, IsWithinLimits}
use Rattle.xc_dance.specs.inner.Tables.{Nodes, NodeTable, IsFit, nodes_from, color_in, entered}
use Rattle.xc_moves.specs.Places.{Node, unused, own, spacer, used, layout}
use Rattle.std.proofs.lemmas.Option.{slice_get-get_or}
use Rattle.xc_dance.proofs.TableLemmas.{is_at}
use Rattle.xc_dance.proofs.links.first_nodes.link_uses.Goals as goal
use Rattle.xc_dance.proofs.links.first_nodes.link_uses.Goals.{Then-top-lt-SPACER, then-top-lt-SPACER}
use Rattle.xc_dance.proofs.links.first_nodes.link_uses.Goals.{else-top-lt-SPACER}
use Rattle.xc_dance.specs.declared.links.cells.marks.TheConstants.{SPACER}

abbrev so_far : Puzzle → ℕ → Nodes
so_far p q = nodes_from p (lines_of (take q (layout p))) (color_in p [])

-- the node at q is a use's where its TOP is small, and a spacer's where it isn't
step : {p : Puzzle} (q : ℕ) (n : Node) → IsFit p → IsWithinLimits p → item_count p + 1 ≤ q
    → slice_get (layout p) q ≡ Some n
    → (slice_index (so_far p q).top q < SPACER → (o : ℕ) × (u : Use) × UseStep p (so_far p q) q o u)
    × (SPACER ≤ slice_index (so_far p q).top q → so_far p q ≡ so_far p (q + 1))
step {p} q unused fit limits from e = absurd (omega (arith, is_at p q unused e, from))
step {p} q (own i) fit limits from e = let s = is_at p q (own i) e in absurd (omega (arith, s.1, s.2, from))
step {p} q (spacer n) fit limits from e =
    let top = spacer_top p (lines_of (take q (layout p))) (color_in p []) q n e in
    (λ small. absurd (omega (arith, top, small)), λ large. spacer_step p q n e)
step {p} q (used o u) fit limits from e = grind (arith, use_step p q o u fit limits e)

pub loop-q-init : goal.loop-q-init
loop-q-init c = grind (arith, nodes_same, held_none)

-- a use may be entered
use_here : (c : Then-top-lt-SPACER) → (o : ℕ) × (u : Use)
    × UseStep c.args.problem.now.puzzle c.loop-q.nodes.cells c.loop-q.q o u
use_here c =
    let p = c.args.problem.now.puzzle in
    let q = c.loop-q.q in
    let at = slice_get-get_or (layout p) q unused (omega (arith, c.loop-q-test.true, c.requires.count)) in
    let s = step q _ c.requires.fit c.requires.limits (omega (arith, c.loop-q.auto.q, c.items-q.ensures.value)) at in
    grind arith

pub enter-requires : goal.enter-requires
enter-requires c = let u = (use_here (goal.at.enter-requires c).Then-top-lt-SPACER).2 in grind (arith, common_steps)

pub loop-q-preserved : goal.loop-q-preserved
loop-q-preserved c =
    let p = c.args.problem.now.puzzle in
    let q = c.loop-q.q in
    let at = slice_get-get_or (layout p) q unused (omega (arith, c.loop-q-test.true, c.requires.count)) in
    let from : item_count p + 1 ≤ q = omega (arith, c.loop-q.auto.q, c.items-q.ensures.value) in
    let top = ap (λ (t : Nodes). slice_index t.top q) c.loop-q.invariant in
    let s = step _ _ c.requires.fit c.requires.limits from at in
    elim c.if-top-lt-SPACER.branch [
      | then-top-lt-SPACER w ↦
          ap (λ (t : NodeTable). t.cells) w.nodes-is ∙ w.enter.ensures
          ∙ ap (λ (t : Nodes). entered t q) c.loop-q.invariant
          ∙ (s.0 (omega (arith, top, c.top.ensures, w.if-top-lt-SPACER))).2.done
      | else-top-lt-SPACER w ↦
          ap (λ (t : NodeTable). t.cells) w.nodes-is ∙ c.loop-q.invariant
          ∙ s.1 (omega (arith, top, c.top.ensures, w.if-top-lt-SPACER))
    ]

pub returns : goal.returns
returns c = grind (arith, all_entered)
