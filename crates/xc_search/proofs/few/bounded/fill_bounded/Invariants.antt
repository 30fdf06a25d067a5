use Rattle.std.proofs.Common.{ℕ, ◌≡◌, ◌<◌, ◌==◌, ◌&&◌, not, min, length, get_or, nat_lt}
use Rattle.std.specs.Int.{bit_at}
use Rattle.xc_input.specs.Problem.{uses_of}
use Rattle.xc_search.specs.inner.Filled.{held_at}
use Rattle.xc_search.specs.inner.FewBounded.{low_left, high_left, clash}
use Rattle.xc_search.proofs.few.bounded.fill_bounded.Given as goal

abbrev pub invariant-loop-x : goal.invariant-loop-x
invariant-loop-x g l = record {
  sizes : (length l.words.holders ≡ 64) × (length l.words.many ≡ 64) × (length l.words.apart ≡ 64)
      × (length l.words.low ≡ 64) × (length l.words.high ≡ 64);
  apart : (k y : ℕ) → k < l.x → (bit_at (get_or l.words.apart k 0) y == 1)
      ≡ clash l.problem.puzzle (g.D.Dance.state l.dance).trail
      (uses_of l.problem.puzzle (get_or l.options k 0)) (uses_of l.problem.puzzle (get_or l.options y 0));
  many : (k : ℕ) → k < l.x → get_or l.words.many k 0 ≡ 0;
}

abbrev pub invariant-loop-i : goal.invariant-loop-i
invariant-loop-i g l = record {
  sizes : (length l.words.holders ≡ 64) × (length l.words.many ≡ 64) × (length l.words.low ≡ 64)
      × (length l.words.high ≡ 64);
  apart : l.words.apart ≡ l.initial.words.apart;
  low : (k : ℕ) → k < l.i → get_or l.words.low k 0
      ≡ min (low_left l.problem.puzzle (g.D.Dance.state l.dance).trail (get_or l.items k 0)) 64;
  high : (k : ℕ) → k < l.i → get_or l.words.high k 0
      ≡ min (high_left l.problem.puzzle (g.D.Dance.state l.dance).trail (get_or l.items k 0)) 64;
  holders : (k y : ℕ) → k < l.i → (bit_at (get_or l.words.holders k 0) y == 1)
      ≡ held_at l.problem.puzzle l.options (get_or l.items k 0) y;
  many : (k y : ℕ) → y < length l.options → (bit_at (get_or l.words.many y 0) k == 1)
      ≡ (nat_lt k l.i && (held_at l.problem.puzzle l.options (get_or l.items k 0) y
      && not (high_left l.problem.puzzle (g.D.Dance.state l.dance).trail (get_or l.items k 0) == 1)));
}
