use Rattle.std.proofs.Common.{ℕ, ◌≡◌, ◌+◌, ◌-◌, length}
use Rattle.std.specs.Prelude.{slice_get}
use Rattle.xc_count.specs.inner.Keys.{mark_says}
use Rattle.xc_count.proofs.keys.set_mark.Given as goal

abbrev pub invariant-loop-key : goal.invariant-loop-key
invariant-loop-key l =
    (k : ℕ) → mark_says (slice_get l.key.items k) ≡ mark_says (slice_get l.initial.key.items k)

abbrev pub decreases-loop-key : goal.decreases-loop-key
decreases-loop-key l = (l.place + 1) - length l.key.items
