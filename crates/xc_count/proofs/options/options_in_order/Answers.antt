use Rattle.std.proofs.Common.{arith, ◌≡◌, ◌≤◌, ◌+◌, ◌∙◌, sym, subst, get_or, length, ltb-true, ltb-false}
use Rattle.std.specs.Prelude.{nat_lt, All, Contains}
use Rattle.xc_input.specs.Problem.{IsItem, IsPrimary}
use Rattle.xc_text.proofs.ListLemmas.{by_bool}
use Rattle.xc_count.specs.inner.Plans.{options_with}
use Rattle.xc_count.proofs.HolderLemmas.{item_of, options_known}
use Rattle.xc_count.proofs.options.options_in_order.Goals as goal

pub push_each-requires-clause-options : goal.push_each-requires-clause-options
push_each-requires-clause-options c =
    let p = c.args.problem.now.puzzle in
    let item = get_or c.deref-item-items.result.now c.loop-item.item-index 0 in
    let known : IsItem p item = item_of p item
    (subst (λ ys. IsPrimary p (get_or ys c.loop-item.item-index 0)) (sym c.deref-item-items.ensures.value)
    (c.requires.order.primary c.loop-item.item-index 0 (grind arith))) in
    subst (λ os. All (λ o. (1 ≤ o) × (o ≤ length c.loop-item.seen.items)) os)
    (sym (c.options_of.ensures p c.requires known))
    (subst (λ n. All (λ o. (1 ≤ o) × (o ≤ n)) (options_with p item)) (sym c.loop-item.invariant.len)
    (options_known p item))

pub loop-o-preserved : goal.loop-o-preserved
loop-o-preserved c =
    let done = c.in_ok-push_once.ensures in
    record {
      once = done.once;
      len = done.len ∙ c.loop-o.invariant.len;
      here = λ j h l. by_bool (nat_lt c.loop-o.o j)
          (λ e. let past = ltb-true _ _ e in
          let is : c.loop-o.o + 1 ≡ j = omega (arith, past, l) in
          subst (λ k. Contains c.push_once.new.order.items k) is done.here)
          (λ e. let before = ltb-false _ _ e in done.kept j (c.loop-o.invariant.here j h before));
    }
