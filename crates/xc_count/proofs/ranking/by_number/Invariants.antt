use Rattle.std.proofs.Common.{ℕ, ◌≡◌, ◌+◌, ◌<◌, length, get_or}
use Rattle.xc_count.proofs.ranking.by_number.Given as goal

abbrev pub invariant-loop-i : goal.invariant-loop-i
invariant-loop-i l = record {
  ranks : length l.ranks.items ≡ l.i;
  items : length l.items.items ≡ l.i;
  rank : (k : ℕ) → k < l.i → get_or l.ranks.items k 0 ≡ k;
  item : (k : ℕ) → k < l.i → get_or l.items.items k 0 ≡ k + 1;
}
