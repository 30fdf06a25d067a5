use Rattle.std.proofs.Common.{ℕ, ◌≤◌, ◌-◌, get_or, take}
use Rattle.xc_least.specs.inner.Held.{once_if_held}
use Rattle.xc_least.proofs.decided.release.Given as goal

abbrev pub invariant-loop-u : goal.invariant-loop-u
invariant-loop-u l = (i : ℕ) → get_or l.held.items i 0
    ≤ get_or l.initial.held.items i 0 - once_if_held (take l.u-index l.uses) i
