use Rattle.std.proofs.Common.{ℕ, ◌≡◌, ◌≤◌, drop, length}
use Rattle.xc_count.specs.inner.Held.{holding_uses}
use Rattle.xc_count.specs.inner.Keys.{held_in}
use Rattle.xc_count.proofs.keys.mark_uses.Given as goal

abbrev pub invariant-loop-place : goal.invariant-loop-place
invariant-loop-place l = record {
  held : (i : ℕ) → 1 ≤ i → i ≤ length l.ranks → held_in l.ranks l.from l.key.items i
      ≡ holding_uses (drop l.place l.uses) (held_in l.ranks l.from l.initial.key.items) i;
  within : l.place ≤ length l.uses;
}

abbrev pub decreases-loop-place : goal.decreases-loop-place
decreases-loop-place l = l.place
