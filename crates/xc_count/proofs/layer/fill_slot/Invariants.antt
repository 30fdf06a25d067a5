use Rattle.std.proofs.Common.{◌≡◌, ◌<◌, ◌-◌, ◌/◌, ◌^◌, length, List}
use Rattle.xc_count.specs.declared.layer.Slot.{Slot}
use Rattle.xc_count.specs.inner.Layers.{Finds}
use Rattle.xc_count.proofs.SlotLemmas.{Grew, LeadsTo}
use Rattle.xc_count.proofs.layer.fill_slot.Given as goal

abbrev pub invariant-loop-tried : goal.invariant-loop-tried
invariant-loop-tried l = record {
  same : l.slots.items ≡ l.initial.slots.items;
  len : length l.slots.items ≡ l.many;
  within : l.slot < l.many;
  reach : (ss : List Slot) → Grew l.slots.items ss
      → LeadsTo ss (l.many - l.tried) l.slot (l.hash / 2 ^ 32) l.place → Finds ss l.hash l.place;
}
