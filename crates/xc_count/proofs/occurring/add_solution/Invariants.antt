use Rattle.std.proofs.Common.{ℕ, ◌≡◌, ◌≢◌, ◌≤◌, ◌+◌, ◌-◌, length, get_or}
use Rattle.std.specs.Prelude.{All, AllPairs}
use Rattle.xc_search.specs.Cover.{options_of}
use Rattle.xc_count.proofs.OptionCounts.{hit}
use Rattle.xc_count.proofs.occurring.add_solution.Given as goal

abbrev pub invariant-loop-choice : goal.invariant-loop-choice
invariant-loop-choice l = record {
  counted : (o : ℕ) → 1 ≤ o → get_or l.times (o - 1) 0 + hit o (options_of l.left)
      ≡ get_or l.initial.times (o - 1) 0 + hit o (options_of l.fn.solution);
  known : All (λ o. (1 ≤ o) × (o ≤ length l.times)) (options_of l.left);
  distinct : AllPairs (λ a b. a ≢ b) (options_of l.left);
  len : length l.times ≡ length l.initial.times;
}

abbrev pub decreases-loop-choice : goal.decreases-loop-choice
decreases-loop-choice l = length l.left
