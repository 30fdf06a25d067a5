use Rattle.std.proofs.Common.{◌≡◌, ◌<◌, ◌≤◌, ◌⊎◌, ℕ, slice_index}
use Rattle.std.specs.Int.{bit_at}
use Rattle.xc_words.specs.Bounded.{times_in}
use Rattle.xc_words.proofs.FewestLemmas.{IsFound}
use Rattle.xc_words.proofs.bounded.fewest_of.Given as goal

abbrev pub invariant-loop-rest : goal.invariant-loop-rest
invariant-loop-rest l = IsFound l.words l.fn.unmet l.set l.rest l.least l.branch
    × ((i : ℕ) → i < 64 → bit_at l.unmet i ≡ 1 → bit_at l.fn.unmet i ≡ 1)
    × ((i : ℕ) → i < 64 → bit_at l.fn.unmet i ≡ 1
    → (bit_at l.unmet i ≡ 1) ⊎ (slice_index l.words.low i ≤ times_in l.words l.set i))
    × ((i : ℕ) → bit_at l.rest i ≡ 1 → bit_at l.fn.unmet i ≡ 1)

abbrev pub decreases-loop-rest : goal.decreases-loop-rest
decreases-loop-rest l = l.rest
