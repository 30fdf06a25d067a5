use Rattle.std.proofs.Common.{◌≡◌, ◌<◌, ◌≤◌, ◌+◌, ◌^◌, ℕ}
use Rattle.xc_words.specs.Words.{bits_of}
use Rattle.xc_words.specs.Bounded.{fair_sets}
use Rattle.xc_words.specs.inner.Fair.{IsRight}
use Rattle.xc_words.proofs.bounded.+count_beside.Given as goal

abbrev pub decreases-count_beside : goal.decreases-count_beside
decreases-count_beside l = l.budget.now

abbrev pub invariant-loop-left : goal.invariant-loop-left
invariant-loop-left l = (l.sum ≤ l.most) × (l.budget < l.fn.budget) × (l.set < 2 ^ 64)
    × (l.budget ≤ l.initial.budget)
    × ((items : ℕ) → IsRight l.words items l.left-2 l.set-2 l.unmet-2
    → IsRight l.words items l.left l.set l.unmet
    × (l.sum + fair_sets l.words items (bits_of l.left) l.set
    ≡ fair_sets l.words items (bits_of l.left-2) l.set-2))

abbrev pub decreases-loop-left : goal.decreases-loop-left
decreases-loop-left l = l.left

abbrev pub invariant-loop-budget : goal.invariant-loop-budget
invariant-loop-budget l = (l.sum ≤ l.most) × (l.budget ≤ l.fn.budget) × (l.set < 2 ^ 64)
    × ((items : ℕ) → IsRight l.words items l.left-2 l.set-2 l.unmet-2
    → IsRight l.words items l.left l.set l.unmet
    × (l.sum + fair_sets l.words items (bits_of l.left) l.set
    ≡ fair_sets l.words items (bits_of l.left-2) l.set-2))

abbrev pub decreases-loop-budget : goal.decreases-loop-budget
decreases-loop-budget l = l.budget
