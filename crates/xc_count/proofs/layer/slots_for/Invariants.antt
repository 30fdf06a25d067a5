use Rattle.std.proofs.Common.{ℕ, ◌≡◌, ◌<◌, ◌+◌, List, Some}
use Rattle.std.specs.Prelude.{slice_get}
use Rattle.xc_count.specs.inner.Layers.{Finds, told}
use Rattle.xc_count.proofs.layer.slots_for.Given as goal

abbrev pub invariant-loop-k : goal.invariant-loop-k
invariant-loop-k g l = (j : ℕ) (t : List ℕ × ℕ) → j < l.k → slice_get (told l.states) j ≡ Some t
    → Finds l.slots.items t.1 (j + 1)
