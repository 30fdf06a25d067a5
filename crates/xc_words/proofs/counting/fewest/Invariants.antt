use Rattle.std.proofs.Common.{◌≡◌, ◌<◌, ℕ}
use Rattle.std.specs.Int.{bit_at}
use Rattle.std.specs.Int.Bits.{bit_and}
use Rattle.std.specs.Prelude.{slice_index}
use Rattle.xc_words.proofs.counting.fewest.Given as goal

abbrev pub invariant-loop-rest : goal.invariant-loop-rest
invariant-loop-rest l = ((i : ℕ) × (i < 64) × (bit_at l.items i ≡ 1)
    × (l.of ≡ bit_and (slice_index l.words.holders i) l.left))
    × ((i : ℕ) → bit_at l.rest i ≡ 1 → bit_at l.items i ≡ 1)

abbrev pub decreases-loop-rest : goal.decreases-loop-rest
decreases-loop-rest l = l.rest
