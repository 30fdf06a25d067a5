use Rattle.std.proofs.Common.{arith, ◌≡◌, ap, sym, subst, take, get_or, [], true, ltb-true, ltb-false}
use Rattle.std.specs.Prelude.{nat_lt, is_some, unwrap_or}
use Rattle.std.proofs.lemmas.List.{get_or_default}
use Rattle.xc_input.specs.Problem.{uses_of, colour_in}
use Rattle.xc_text.proofs.ListLemmas.{by_bool}
use Rattle.xc_count.specs.inner.Plans.{HoldsPast}
use Rattle.xc_count.proofs.planning.are_past.Goals as goal

pub loop-o-preserved : goal.loop-o-preserved
loop-o-preserved c = λ j d h.
    let p = c.args.problem.now.puzzle in
    let past = take c.args.past c.args.plan.now.order.items in
    let k = c.loop-o.o-index in
    let os = c.args.options.now in
    by_bool (nat_lt j k)
    (λ e. c.loop-o.invariant j d (ltb-true _ _ e))
    (λ e.
    let after = ltb-false _ _ e in
    let here : k ≡ j = omega (arith, after, h) in
    let one = c.has_past.ensures (grind arith) in
    let uses : uses_of p (get_or os k 0) ≡ c.option.result.now = ap (λ o. unwrap_or o []) c.option.ensures.value in
    let same : get_or os k d ≡ get_or os k 0 = get_or_default os k d 0 (omega arith) in
    subst (λ i. HoldsPast p past (get_or os i d)) here (
      one.0,
      one.1,
      subst (λ o. is_some (colour_in (uses_of p o) one.0) ≡ true) (sym same)
          (subst (λ us. is_some (colour_in us one.0) ≡ true) (sym uses) one.2),
    ))
