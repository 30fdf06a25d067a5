use Rattle.std.proofs.Common.{arith, ◌≡◌, ◌+◌, ◌∙◌, subst, ltb-true, ltb-false}
use Rattle.std.specs.Prelude.{nat_lt, Contains}
use Rattle.xc_text.proofs.ListLemmas.{by_bool}
use Rattle.xc_count.proofs.order.whole_order.Goals as goal

pub loop-i-preserved : goal.loop-i-preserved
loop-i-preserved c =
    let done = c.in_ok-push_once-2.ensures in
    record {
      once = done.once;
      len = done.len ∙ c.loop-i.invariant.len;
      here = λ j h l. by_bool (nat_lt c.loop-i.i j)
          (λ e. let past = ltb-true _ _ e in
          let is : c.loop-i.i + 1 ≡ j = omega (arith, past, l) in
          subst (λ k. Contains c.push_once-in-loop-i.new.order.items k) is done.here)
          (λ e. let before = ltb-false _ _ e in done.kept j (c.loop-i.invariant.here j h before));
    }
