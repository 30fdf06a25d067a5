use Rattle.std.proofs.Common.{ℕ, ◌≡◌, ◌+◌, ◌-◌, length, get_or}
use Rattle.xc_count.proofs.marks.put_mark.Given as goal

abbrev pub invariant-loop-key : goal.invariant-loop-key
invariant-loop-key l = (k : ℕ) → get_or l.key.items k 0 ≡ get_or l.initial.key.items k 0

abbrev pub decreases-loop-key : goal.decreases-loop-key
decreases-loop-key l = (l.place + 1) - length l.key.items
