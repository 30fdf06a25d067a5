use Rattle.std.proofs.Common.{ℕ, ◌≡◌, ◌==◌, take}
use Rattle.std.specs.Int.{bit_at}
use Rattle.xc_search.specs.inner.FewBounded.{clashes_at}
use Rattle.xc_search.proofs.few.bounded.all_clashing.Given as goal

abbrev pub invariant-loop-u : goal.invariant-loop-u
invariant-loop-u g l = (y : ℕ) → (bit_at l.apart y == 1)
    ≡ clashes_at l.problem.puzzle (g.D.Dance.state l.dance).trail l.colours l.holders l.coloured
    (take l.u-index l.uses) y
