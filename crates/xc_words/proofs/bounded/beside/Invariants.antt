use Rattle.std.proofs.Common.{◌≡◌, ℕ, slice_index}
use Rattle.std.specs.Int.{bit_at}
use Rattle.xc_words.proofs.FewestLemmas.{Stays, Goes}
use Rattle.xc_words.proofs.bounded.beside.Given as goal

abbrev pub invariant-loop-rest : goal.invariant-loop-rest
invariant-loop-rest l = Stays l.words l.left l.set l.x l.rest l.stay × Goes l.words l.left l.set l.x l.stay
    × ((i : ℕ) → bit_at l.rest i ≡ 1 → bit_at (slice_index l.words.many l.x) i ≡ 1)

abbrev pub decreases-loop-rest : goal.decreases-loop-rest
decreases-loop-rest l = l.rest
