use Rattle.std.proofs.Common.{ℕ, ◌≡◌, ◌<◌, ◌+◌, ◌∙◌, ◌∷◌, [], arith, ap, length, subst, sym, take}
use Rattle.std.proofs.lemmas.List.{length-append}
use Rattle.xc_input.specs.Problem.{IsItem}
use Rattle.xc_count.specs.inner.Keys.{rank_of}
use Rattle.xc_count.specs.inner.Plans.{IsOver}
use Rattle.xc_count.proofs.PlanLemmas.{over_below, window_pushed}
use Rattle.xc_count.proofs.planning.find_windows.Goals as goal

pub loop-place-init : goal.loop-place-init
loop-place-init c = record {
  many = ap length c.new-windows.ensures.items;
  windows = λ k i h item low. let none = ap length c.new-windows.ensures.items in absurd (omega (arith, none, h));
  over = λ i item low. absurd (omega (arith, low));
}

pub loop-place-preserved : goal.loop-place-preserved
loop-place-preserved c =
    let p = c.args.problem.now.puzzle in
    let order = c.args.plan.now.order.items in
    let ranks = c.args.plan.now.ranking.ranks.items in
    let l = c.loop-place in
    let over = over_below p order ranks l.place l.from c.next_window-from.result l.invariant.over
    c.next_window-from.ensures.over in
    let here : l.place ≡ length l.windows.items = sym l.invariant.many in
    record {
      many = let one = ap length c.in_ok-push.ensures.items
          ∙ length-append l.windows.items (c.next_window-from.result ∷ []) in omega (arith, one, l.invariant.many);
      windows = window_pushed p order ranks l.windows.items c.push.new.self.items c.next_window-from.result
          c.in_ok-push.ensures.items l.invariant.windows
          (subst (λ k. (i : ℕ) → IsItem p i → rank_of ranks i < c.next_window-from.result
          → IsOver p (take (k + 1) order) i) here over);
      over = over;
    }
