use Rattle.std.proofs.Common.{arith, refl, subst, sym, ◌≡◌, List}
use Rattle.std.proofs.Common.{to_z, of_z, w64}
use Rattle.std.specs.Prelude.{◌≤ℤ◌, ℤ}
use Rattle.std.proofs.lemmas.Int.{ints}
use Rattle.xc_least.specs.Least.{total_cost}
use Rattle.xc_least.specs.declared.steps.Step.{Step}
use Rattle.xc_least.specs.inner.Regions.{newest, surplus_at, taken_of}
use Rattle.xc_least.proofs.FloorLemmas.{AreOut, begun, leaf_behind, turned_out, all_behind}
use Rattle.xc_least.proofs.floor.has_floor.Goals as goal

pub loop-left-init : goal.loop-left-init
loop-left-init c =
    let f = surplus_at c.args.surplus.now in
    record {
      kept = c.in_ok-decided.ensures.kept f;
      out = begun c.args.problem.now.puzzle f c.args.gap c.args.costs.now (to_z w64 (of_z w64 c.args.limit))
          c.in_ok-decided.decided.steps.items c.in_ok-decided.ensures.none;
    }

pub returns-then-not-branch-2 : goal.returns-then-not-branch-2
returns-then-not-branch-2 c = λ e.
    let p = c.args.problem.now.puzzle in
    let f = surplus_at c.args.surplus.now in
    let ds = newest c.loop-left.decided.steps.items in
    let same : to_z w64 (of_z w64 c.args.limit) ≡ c.args.limit = omega (arith, ints) in
    let out = subst (λ (z : ℤ). AreOut p f c.args.gap c.args.costs.now z ds) same c.loop-left.invariant.out in
    let raw = subst (λ (z : ℤ). z ≤ℤ total_cost c.args.costs.now (taken_of (newest c.as_slice.result.now))) same
    (c.is_dear.ensures c.if-not-is_dear.false) in
    let dear = subst (λ (ss : List Step). c.args.limit ≤ℤ total_cost c.args.costs.now (taken_of (newest ss)))
    c.as_slice.ensures.value raw in
    all_behind p f c.args.gap c.args.costs.now c.args.limit ds
    (leaf_behind p f c.args.gap c.args.costs.now c.args.limit ds c.loop-left.decided.place.items
    c.loop-left.invariant.kept.placed (c.in-Leaf.ensures.leaf refl) dear out)
    (c.in_ok-turn-in-Leaf.ensures.ended (grind arith))

pub loop-left-preserved : goal.loop-left-preserved
loop-left-preserved c =
    let p = c.args.problem.now.puzzle in
    let f = surplus_at c.args.surplus.now in
    let ds = newest c.loop-left.decided.steps.items in
    let same : to_z w64 (of_z w64 c.args.limit) ≡ c.args.limit = omega (arith, ints) in
    let out = subst (λ (z : ℤ). AreOut p f c.args.gap c.args.costs.now z ds) same c.loop-left.invariant.out in
    let raw = subst (λ (z : ℤ). z ≤ℤ total_cost c.args.costs.now (taken_of (newest c.as_slice.result.now))) same
    (c.is_dear.ensures c.if-not-is_dear.false) in
    let dear = subst (λ (ss : List Step). c.args.limit ≤ℤ total_cost c.args.costs.now (taken_of (newest ss)))
    c.as_slice.ensures.value raw in
    let behind = leaf_behind p f c.args.gap c.args.costs.now c.args.limit ds c.loop-left.decided.place.items
    c.loop-left.invariant.kept.placed (c.in-Leaf.ensures.leaf refl) dear out in
    record {
      kept = c.in_ok-turn-in-Leaf.ensures.kept;
      out = subst (λ (z : ℤ). AreOut p f c.args.gap c.args.costs.now z (newest c.turn-in-Leaf.new.self.steps.items))
          (sym same) (turned_out p f c.args.gap c.args.costs.now c.args.limit ds
          (newest c.turn-in-Leaf.new.self.steps.items) behind (c.in_ok-turn-in-Leaf.ensures.turned (grind arith)));
    }
