-- The invariant's `reach`: in any slots that only filled empty ones of these, a place that is found from `slot` on, in
-- the tries that are left, is found by its hash. A slot that is full leads on to the next one (`leads_before`,
-- `full_still`). The first empty one is filled, and leads to the place (`fills_here`); what was found before is found
-- still (`finds_still`), as no full slot changes (`grew_set`).
use Rattle.std.proofs.Common.{arith, refl, ◌≡◌, ◌-◌, ◌+◌, ◌/◌, ◌^◌, ◌∙◌, sym, ap, subst, length, Some}
use Rattle.std.specs.Prelude.{slice_get, slice_set}
use Rattle.std.proofs.lemmas.Option.{slice_get_read}
use Rattle.xc_count.specs.declared.layer.Slot.{Slot}
use Rattle.xc_count.specs.inner.Layers.{Finds, slot_after}
use Rattle.xc_count.proofs.SlotLemmas.{LeadsTo, grew_set, finds_from, finds_still, fills_here, full_at}
use Rattle.xc_count.proofs.SlotLemmas.{full_still, leads_before}
use Rattle.xc_count.proofs.layer.fill_slot.Goals as goal

pub loop-tried-init : goal.loop-tried-init
loop-tried-init c = record {
  same = refl;
  len = omega arith;
  within = c.slot_of-slot.ensures.within;
  reach = λ ss g l. finds_from ss c.args.hash c.args.place c.len-many.result c.slot_of-slot.result
      (omega (arith, g.len)) c.slot_of-slot.ensures.is l;
}

pub returns-then-index-eq0-clause-filled : goal.returns-then-index-eq0-clause-filled
returns-then-index-eq0-clause-filled c = λ _.
    let slots = c.loop-tried.slots.items in
    let at = c.loop-tried.slot in
    let new : Slot = record { place = c.args.place; tag = c.tag_of.result } in
    let so = c.loop-tried.invariant in
    let there : slice_get slots at ≡ Some c.index.result.now =
    slice_get_read slots (length slots) at c.index.result.now refl (omega (arith, so.len, so.within)) c.index.ensures in
    let many = c.len-many.result in
    so.reach (slice_set slots at new) (grew_set slots at c.index.result.now new there c.if-index-eq0.true)
    (fills_here slots (many - c.loop-tried.tried) (many - (c.loop-tried.tried + 1)) at (c.args.hash / 2 ^ 32)
    c.tag_of.result c.args.place (omega arith) c.tag_of.ensures (omega (arith, so.len, so.within)))

pub returns-then-index-eq0-clause-kept : goal.returns-then-index-eq0-clause-kept
returns-then-index-eq0-clause-kept c = λ h k above f.
    let slots = c.loop-tried.slots.items in
    let at = c.loop-tried.slot in
    let new : Slot = record { place = c.args.place; tag = c.tag_of.result } in
    let so = c.loop-tried.invariant in
    let there : slice_get slots at ≡ Some c.index.result.now =
    slice_get_read slots (length slots) at c.index.result.now refl (omega (arith, so.len, so.within)) c.index.ensures in
    finds_still slots (slice_set slots at new) h k
    (grew_set slots at c.index.result.now new there c.if-index-eq0.true) (λ z. omega (arith, above, z))
    (subst (λ ss. Finds ss h k) (sym so.same) f)

pub loop-tried-preserved : goal.loop-tried-preserved
loop-tried-preserved c =
    let slots = c.loop-tried.slots.items in
    let at = c.loop-tried.slot in
    let so = c.loop-tried.invariant in
    let many = c.len-many.result in
    let m = many - (c.loop-tried.tried + 1) in
    let s = c.index.result.now in
    let there : slice_get slots at ≡ Some s =
    slice_get_read slots (length slots) at s refl (omega (arith, so.len, so.within)) c.index.ensures in
    record {
      same = so.same;
      len = so.len;
      within = c.next_slot-slot.ensures.within;
      reach = λ ss g l.
          let next : c.next_slot-slot.result ≡ slot_after (length ss) at =
          c.next_slot-slot.ensures.is ∙ ap (λ n. slot_after n at) (sym (g.len ∙ so.len)) in
          so.reach ss g (leads_before ss (many - c.loop-tried.tried) m at (c.args.hash / 2 ^ 32) c.args.place
          (omega arith) (full_still slots ss at g (full_at slots at s there c.if-index-eq0.false))
          (subst (λ a. LeadsTo ss m a (c.args.hash / 2 ^ 32) c.args.place) next l));
    }
