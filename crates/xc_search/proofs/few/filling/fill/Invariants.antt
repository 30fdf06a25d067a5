use Rattle.std.proofs.Common.{ℕ, ◌≡◌, ◌<◌, ◌==◌, ◌&&◌, length, get_or, nat_lt}
use Rattle.std.specs.Int.{bit_at}
use Rattle.xc_input.specs.Problem.{uses_of}
use Rattle.xc_search.specs.inner.Few.{share}
use Rattle.xc_search.specs.inner.Filled.{held_at}
use Rattle.xc_search.proofs.few.filling.fill.Given as goal

abbrev pub invariant-loop-x : goal.invariant-loop-x
invariant-loop-x l = record {
  sizes : (length l.words.holders ≡ 64) × (length l.words.alone ≡ 64) × (length l.words.apart ≡ 64);
  apart : (k y : ℕ) → k < l.x → (bit_at (get_or l.words.apart k 0) y == 1)
      ≡ share (uses_of l.problem.puzzle (get_or l.options k 0)) (uses_of l.problem.puzzle (get_or l.options y 0));
  alone : (k : ℕ) → k < l.x → get_or l.words.alone k 0 ≡ 0;
}

abbrev pub invariant-loop-i : goal.invariant-loop-i
invariant-loop-i l = record {
  sizes : (length l.words.holders ≡ 64) × (length l.words.alone ≡ 64);
  apart : l.words.apart ≡ l.initial.words.apart;
  holders : (k y : ℕ) → k < l.i → (bit_at (get_or l.words.holders k 0) y == 1)
      ≡ held_at l.problem.puzzle l.options (get_or l.items k 0) y;
  alone : (k y : ℕ) → y < length l.options → (bit_at (get_or l.words.alone y 0) k == 1)
      ≡ (nat_lt k l.i && held_at l.problem.puzzle l.options (get_or l.items k 0) y);
}
