use Rattle.std.proofs.Common.{ℕ, ◌≤◌, ◌⊎◌}
use Rattle.std.specs.Prelude.{Contains}
use Rattle.xc_least.specs.inner.Regions.{IsExcluded, newest, surplus_at, taken_of}
use Rattle.xc_least.proofs.lost.first_left.Given as goal

-- each option so far was taken or is lost
abbrev pub invariant-loop-place : goal.invariant-loop-place
invariant-loop-place l = (o : ℕ) → 1 ≤ o → o ≤ l.place → Contains (taken_of (newest l.decided.steps.items)) o
    ⊎ IsExcluded l.problem.puzzle (surplus_at l.surplus) l.gap (newest l.decided.steps.items) o
