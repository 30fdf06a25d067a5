use Rattle.std.proofs.Common.{ℕ, arith, ◌≡◌, ◌+◌, ◌∙◌, sym, ap, subst, List, get_or, Some, ltb-true, ltb-false}
use Rattle.std.specs.Prelude.{nat_lt, slice_get}
use Rattle.std.proofs.lemmas.List.{length-map}
use Rattle.std.proofs.lemmas.Option.{slice_get-get_or, slice_get_within}
use Rattle.xc_text.proofs.ListLemmas.{by_bool}
use Rattle.xc_count.specs.inner.Layers.{Finds, told}
use Rattle.xc_count.proofs.SlotLemmas.{told_at}
use Rattle.xc_count.proofs.layer.slots_for.Goals as goal

pub loop-k-preserved : goal.loop-k-preserved
loop-k-preserved g c = λ j t h e.
    let ss = c.args.states.now in
    let k = c.loop-k.k in
    let slots = c.fill_slot.new.slots.items in
    let s = get_or ss k c.index-states-k.result in
    by_bool (nat_lt j k)
    (λ l. c.fill_slot.ensures.kept t.1 (j + 1) (omega arith) (c.loop-k.invariant j t (ltb-true _ _ l) e))
    (λ l.
    let past = ltb-false _ _ l in
    let last : k ≡ j = omega (arith, h, past) in
    let read : slice_get ss k ≡ Some s = slice_get-get_or ss k c.index-states-k.result (omega arith) in
    let both : Some (s.key.items, s.hash) ≡ Some t =
    sym (told_at ss k s read) ∙ ap (slice_get (told ss)) last ∙ e in
    let same : (s.key.items, s.hash) ≡ t = cc in
    let place : c.in_ok-place_after.field-0 ≡ j + 1 = omega (arith, c.in_ok-place_after.ensures, last) in
    subst (λ x. Finds slots x (j + 1)) (ap (λ (x : List ℕ × ℕ). x.1) same)
    (subst (λ x. Finds slots s.hash x) place (c.fill_slot.ensures.filled (grind arith))))

pub returns : goal.returns
returns g c = λ k t e.
    let within = slice_get_within (told c.args.states.now) k t e in
    let len = length-map {B = List ℕ × ℕ} c.args.states.now (λ s. (s.key.items, s.hash)) in
    c.loop-k.invariant k t (omega (arith, within, len)) e
