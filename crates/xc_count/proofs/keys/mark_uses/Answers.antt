use Rattle.std.proofs.Common.{arith, suc, ◌≡◌, ◌∷◌, ◌-◌, drop, drop-cons, get_or, ◌∙◌, subst, sym, ap}
use Rattle.xc_input.specs.declared.problem.Use.{Use}
use Rattle.xc_count.specs.inner.Held.{holding_uses}
use Rattle.xc_count.specs.inner.Keys.{held_in}
use Rattle.xc_count.proofs.KeyLemmas.{marked_more}
use Rattle.xc_count.proofs.keys.mark_uses.Goals as goal

pub loop-place-preserved : goal.loop-place-preserved
loop-place-preserved c =
    let us = c.args.uses.now in
    let n = c.loop-place.place - 1 in
    let d : Use = record { item = 0; colour = 0 } in
    let u = get_or us n d in
    let known = c.requires.uses n d (omega arith) in
    let next : suc n ≡ c.loop-place.place = omega arith in
    let here : drop n us ≡ u ∷ drop c.loop-place.place us = drop-cons us n d (omega arith)
    ∙ ap (λ k. u ∷ drop k us) next in
    record {
      held = λ i a b. subst (λ vs. held_in c.args.ranks.now c.args.from c.set_mark.new.key.items i
          ≡ holding_uses vs (held_in c.args.ranks.now c.args.from c.args.key.now.items) i) (sym here)
          (marked_more c.args.ranks.now c.args.from c.loop-place.key.items c.set_mark.new.key.items
          (drop c.loop-place.place us) u (held_in c.args.ranks.now c.args.from c.args.key.now.items) c.mark_for.result
          c.requires.apart known.0 known.1 known.2 c.mark_for.ensures c.in_ok-set_mark.ensures.here
          c.in_ok-set_mark.ensures.there c.loop-place.invariant.held i a b);
      within = omega arith;
    }
