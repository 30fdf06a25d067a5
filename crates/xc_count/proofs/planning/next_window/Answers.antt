use Rattle.std.proofs.Common.{arith, ◌≡◌, ◌∙◌, ap, subst, take, get_or, ltb-true, ltb-false}
use Rattle.std.specs.Prelude.{nat_lt}
use Rattle.std.proofs.lemmas.List.{get_or_default}
use Rattle.xc_text.proofs.ListLemmas.{by_bool}
use Rattle.xc_count.specs.inner.Keys.{rank_of}
use Rattle.xc_count.specs.inner.Plans.{IsOver}
use Rattle.xc_count.proofs.planning.next_window.Goals as goal

pub loop-next-preserved : goal.loop-next-preserved
loop-next-preserved c = record {
  rises = omega (arith, c.loop-next.invariant.rises);
  over = λ i item h l.
      let ranking = c.args.plan.now.ranking in
      let rank = rank_of ranking.ranks.items i in
      let next = c.loop-next.next in
      by_bool (nat_lt rank next)
      (λ e. c.loop-next.invariant.over i item h (ltb-true _ _ e))
      (λ e.
      let after = ltb-false _ _ e in
      let here : next ≡ rank = omega (arith, after, l) in
      let is : get_or ranking.items.items next 0 ≡ i =
      ap (λ r. get_or ranking.items.items r 0) here ∙ c.requires.ranks.1 i item.0 item.1 in
      let same = c.index-item.ensures ∙ get_or_default ranking.items.items next c.index-item.result.now 0 (omega arith)
      in
      subst (λ j. IsOver c.args.problem.now.puzzle (take c.args.past c.args.plan.now.order.items) j) (same ∙ is)
      (c.is_over.ensures (grind arith)));
}
