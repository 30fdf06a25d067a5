use Rattle.std.proofs.Common.{ℕ, ◌≡◌, ◌<◌, ◌+◌, true}
use Rattle.xc_check.specs.inner.Classes.{is_held_within}
use Rattle.xc_check.proofs.cover_test.are_held_within.Given as goal

-- the items so far are held as often as they have to be
abbrev pub invariant-loop-i : goal.invariant-loop-i
invariant-loop-i l = (k : ℕ) → k < l.i → is_held_within l.problem.puzzle l.options (k + 1) ≡ true
