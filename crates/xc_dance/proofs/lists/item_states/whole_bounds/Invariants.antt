use Rattle.std.proofs.Common.{◌≡◌, ◌+◌, ◌<◌, ℕ, length, get_or}
use Rattle.xc_input.specs.Problem.{high_at}
use Rattle.xc_dance.proofs.lists.item_states.whole_bounds.Given as goal

abbrev pub invariant-loop-at : goal.invariant-loop-at
invariant-loop-at l = record {
  count : length l.left.items ≡ l.at;
  each : (k : ℕ) → k < l.at → get_or l.left.items k 0 ≡ high_at l.table (k + 1);
}
