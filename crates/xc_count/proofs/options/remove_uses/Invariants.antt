use Rattle.std.proofs.Common.{ℕ, ◌≡◌, ◌-◌, drop, length, get_or}
use Rattle.xc_count.proofs.Orders.{held_by}
use Rattle.xc_count.proofs.options.remove_uses.Given as goal

abbrev pub invariant-loop-u : goal.invariant-loop-u
invariant-loop-u l = record {
  less : (i : ℕ) → get_or l.left.items i 0
      ≡ get_or l.initial.left.items i 0 - (held_by l.uses i - held_by (drop l.u-index l.uses) i);
  len : length l.left.items ≡ length l.initial.left.items;
}
