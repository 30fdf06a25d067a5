use Rattle.std.proofs.Common.{ℕ, ◌≡◌, ◌<◌, ◌==◌, ◌&&◌, ◌||◌, true, not, length, get_or}
use Rattle.std.specs.Int.{bit_at}
use Rattle.xc_search.proofs.few.filling.note_in_each.Given as goal

abbrev pub invariant-loop-rest : goal.invariant-loop-rest
invariant-loop-rest l = record {
  size : length l.words ≡ 64;
  rest : (y : ℕ) → (bit_at l.rest y == 1) ≡ true → (bit_at l.of y == 1) ≡ true;
  noted : (x k : ℕ) → x < 64 → (bit_at (get_or l.words x 0) k == 1)
      ≡ ((bit_at (get_or l.initial.words x 0) k == 1)
      || ((k == l.i) && ((bit_at l.of x == 1) && not (bit_at l.rest x == 1))));
}

abbrev pub decreases-loop-rest : goal.decreases-loop-rest
decreases-loop-rest l = l.rest
