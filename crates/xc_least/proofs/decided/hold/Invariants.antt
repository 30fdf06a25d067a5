use Rattle.std.proofs.Common.{ℕ, ◌≤◌, ◌+◌, eqb, get_or, take}
use Rattle.std.specs.Prelude.{count_by}
use Rattle.xc_least.proofs.decided.hold.Given as goal

abbrev pub invariant-loop-u : goal.invariant-loop-u
invariant-loop-u l = (i : ℕ) → get_or l.held.items i 0
    ≤ get_or l.initial.held.items i 0 + count_by (λ u. eqb u.item i) (take l.u-index l.uses)
