use Rattle.std.proofs.Common.{ℕ, ◌≡◌, ◌≤◌, ◌-◌, get_or}
use Rattle.xc_count.proofs.ranking.is_ranking.Given as goal

abbrev pub invariant-loop-i : goal.invariant-loop-i
invariant-loop-i l = (j : ℕ) → 1 ≤ j → j ≤ l.i → get_or l.items (get_or l.ranks (j - 1) 0) 0 ≡ j
