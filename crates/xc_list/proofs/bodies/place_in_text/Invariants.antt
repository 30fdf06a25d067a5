use Rattle.std.proofs.Common.{◌≡◌, ◌+◌, length, take, drop}
use Rattle.xc_input.specs.UsePlaces.{place_in}
use Rattle.xc_list.specs.inner.Writing.{uses_text}
use Rattle.xc_list.proofs.bodies.place_in_text.Given as goal

-- the item's use is none so far, and their texts are counted
abbrev pub invariant-loop-u : goal.invariant-loop-u
invariant-loop-u l = record {
  found : place_in l.item l.uses ≡ l.u-index + place_in l.item (drop l.u-index l.uses);
  counted : l.place ≡ length (uses_text l.problem (take l.u-index l.uses));
}
