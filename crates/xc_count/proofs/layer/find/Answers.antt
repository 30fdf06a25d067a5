use Rattle.std.proofs.Common.{arith, refl, ◌≡◌, ◌-◌, ◌+◌, ◌/◌, ◌^◌, ◌∙◌, sym, subst, length, Some}
use Rattle.std.proofs.Common.{get_or}
use Rattle.std.specs.Prelude.{slice_get}
use Rattle.std.proofs.lemmas.Option.{slice_get-get_or}
use Rattle.xc_count.specs.declared.layer.Slot.{Slot}
use Rattle.xc_count.specs.inner.Layers.{Finds}
use Rattle.xc_count.proofs.SlotLemmas.{LeadsTo, finds_none, finds_to, leads_by_full, leads_on, told_at}
use Rattle.xc_count.proofs.layer.find.Goals.{else-tag-tag_of-via-then-tag-tag_of+else-is_at}
use Rattle.xc_count.proofs.layer.find.Goals.{else-tag-tag_of-via-else-tag-tag_of}
use Rattle.xc_count.proofs.layer.find.Goals as goal

pub returns-then-many-eq0-clause-none : goal.returns-then-many-eq0-clause-none
returns-then-many-eq0-clause-none g c = λ k s e h q.
    finds_none c.args.slots.now s.hash (k + 1) c.if-many-eq0.true
    (c.requires k (s.key.items, s.hash) (told_at c.args.states.now k s e))

pub loop-tried-init : goal.loop-tried-init
loop-tried-init g c = record {
  within = c.slot_of-slot.ensures.within;
  leads = λ k s e h q. finds_to c.args.slots.now c.args.hash (k + 1) (length c.args.slots.now) c.slot_of-slot.result
      refl c.slot_of-slot.ensures.is (subst (λ x. Finds c.args.slots.now x (k + 1)) h
      (c.requires k (s.key.items, s.hash) (told_at c.args.states.now k s e)));
}

pub returns-then-place-eq0-clause-none : goal.returns-then-place-eq0-clause-none
returns-then-place-eq0-clause-none g c = λ k s e h q.
    let slots = c.args.slots.now in
    let at = c.loop-tried.slot in
    let d : Slot = record { place = 0; tag = 0 } in
    leads_by_full slots (length slots - c.loop-tried.tried) at (c.args.hash / 2 ^ 32) (k + 1) (get_or slots at d)
    (λ z. omega (arith, z)) (slice_get-get_or slots at d c.loop-tried.invariant.within)
    (c.loop-tried.invariant.leads k s e h q) c.if-place-eq0.true

pub returns-then-is_at-clause-some : goal.returns-then-is_at-clause-some
returns-then-is_at-clause-some g c = c.is_at.ensures.some c.if-is_at.true

pub loop-tried-preserved : goal.loop-tried-preserved
loop-tried-preserved g c =
    let slots = c.args.slots.now in
    let at = c.loop-tried.slot in
    let d : Slot = record { place = 0; tag = 0 } in
    let t = get_or slots at d in
    let tag = c.args.hash / 2 ^ 32 in
    let m = length slots - (c.loop-tried.tried + 1) in
    record {
      within = c.next_slot-slot.ensures.within;
      leads = λ k s e h q.
          let other : t.place ≡ k + 1 → t.tag ≡ tag → ⊥ = λ a b.
          let below : k ≡ t.place - 1 = omega (arith, a) in
          elim c.else-tag-tag_of.branch [
            | else-tag-tag_of-via-then-tag-tag_of+else-is_at w ↦
                w.is_at.ensures.none w.if-is_at.false s
                (subst (λ j. slice_get c.args.states.now j ≡ Some s) below e) q
            | else-tag-tag_of-via-else-tag-tag_of w ↦
                w.if-tag-tag_of.false (b ∙ sym c.tag_of.ensures)
          ] in
          subst (λ a. LeadsTo slots m a tag (k + 1)) (sym c.next_slot-slot.ensures.is)
          (leads_on slots (length slots - c.loop-tried.tried) m at tag (k + 1) t (omega arith)
          (slice_get-get_or slots at d c.loop-tried.invariant.within) other (c.loop-tried.invariant.leads k s e h q));
    }
