use Rattle.std.proofs.Common.{ℕ, ◌≡◌, ◌==◌, take}
use Rattle.std.specs.Int.{bit_at}
use Rattle.xc_search.specs.inner.Filled.{shares_at}
use Rattle.xc_search.proofs.few.filling.all_apart.Given as goal

abbrev pub invariant-loop-u : goal.invariant-loop-u
invariant-loop-u l =
    (y : ℕ) → (bit_at l.apart y == 1) ≡ shares_at l.colours l.holders l.coloured (take l.u-index l.uses) y

abbrev pub invariant-loop-u-2 : goal.invariant-loop-u-2
invariant-loop-u-2 l =
    (y : ℕ) → (bit_at l.apart y == 1) ≡ shares_at l.colours l.holders l.coloured (take l.u-index l.uses) y
