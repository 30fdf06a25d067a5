use Rattle.std.proofs.Common.{ℕ, ◌≡◌, ◌<◌, ◌≤◌, ◌==◌, ◌&&◌, ◌||◌, true, take, get_or, nat_lt}
use Rattle.std.specs.Int.{bit_at}
use Rattle.xc_input.specs.Problem.{uses_of}
use Rattle.xc_search.specs.inner.Filled.{gives, colour_place}
use Rattle.xc_search.proofs.few.filling.note_colours.Given as goal

-- the words of the colours that the options so far give are 0
abbrev pub invariant-loop-o : goal.invariant-loop-o
invariant-loop-o l = (y j c : ℕ) → 0 < c → c ≤ l.colours → y < l.o-index
    → gives (uses_of l.problem.puzzle (get_or l.options y 0)) j c ≡ true
    → get_or l.coloured (colour_place l.colours j c) 0 ≡ 0

abbrev pub invariant-loop-u : goal.invariant-loop-u
invariant-loop-u l = record {
  before : (y j c : ℕ) → 0 < c → c ≤ l.colours → y < l.o-index
      → gives (uses_of l.problem.puzzle (get_or l.options y 0)) j c ≡ true
      → get_or l.coloured (colour_place l.colours j c) 0 ≡ 0;
  here : (j c : ℕ) → 0 < c → c ≤ l.colours → gives (take l.u-index l.u-items) j c ≡ true
      → get_or l.coloured (colour_place l.colours j c) 0 ≡ 0;
}

abbrev pub invariant-loop-x : goal.invariant-loop-x
invariant-loop-x l = (z j c : ℕ) → 0 < c → c ≤ l.colours
    → gives (uses_of l.problem.puzzle (get_or l.options z 0)) j c ≡ true → (y : ℕ)
    → (bit_at (get_or l.coloured (colour_place l.colours j c) 0) y == 1)
    ≡ (nat_lt y l.x && gives (uses_of l.problem.puzzle (get_or l.options y 0)) j c)

abbrev pub invariant-loop-u-2 : goal.invariant-loop-u-2
invariant-loop-u-2 l = (z j c : ℕ) → 0 < c → c ≤ l.colours
    → gives (uses_of l.problem.puzzle (get_or l.options z 0)) j c ≡ true → (y : ℕ)
    → (bit_at (get_or l.coloured (colour_place l.colours j c) 0) y == 1)
    ≡ ((nat_lt y l.x && gives (uses_of l.problem.puzzle (get_or l.options y 0)) j c)
    || ((y == l.x) && gives (take l.u-index l.u-items) j c))
