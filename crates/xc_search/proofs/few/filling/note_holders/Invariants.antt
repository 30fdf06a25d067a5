use Rattle.std.proofs.Common.{ℕ, ◌≡◌, ◌<◌, ◌==◌, ◌&&◌, ◌||◌, true, length, take, get_or, nat_lt, is_some}
use Rattle.xc_input.specs.Problem.{colour_in}
use Rattle.xc_search.specs.inner.Filled.{held_at}
use Rattle.xc_search.proofs.FillLemmas.{Tells, IsMet}
use Rattle.xc_search.proofs.few.filling.note_holders.Given as goal

abbrev pub invariant-loop-i : goal.invariant-loop-i
invariant-loop-i l = (k : ℕ) → k < l.i-index → get_or l.holders (get_or l.items k 0) 0 ≡ 0

abbrev pub invariant-loop-o : goal.invariant-loop-o
invariant-loop-o l = record {
  items : (k : ℕ) → k < length l.items → get_or l.holders (get_or l.items k 0) 0 ≡ 0;
  held : (y j : ℕ) → y < l.o-index → held_at l.problem.puzzle l.options j y ≡ true → get_or l.holders j 0 ≡ 0;
}

abbrev pub invariant-loop-u : goal.invariant-loop-u
invariant-loop-u l = record {
  items : (k : ℕ) → k < length l.items → get_or l.holders (get_or l.items k 0) 0 ≡ 0;
  held : (y j : ℕ) → y < l.o-index → held_at l.problem.puzzle l.options j y ≡ true → get_or l.holders j 0 ≡ 0;
  here : (j : ℕ) → is_some (colour_in (take l.u-index l.u-items) j) ≡ true → get_or l.holders j 0 ≡ 0;
}

abbrev pub invariant-loop-x : goal.invariant-loop-x
invariant-loop-x l = (j : ℕ) → IsMet l.problem.puzzle l.items l.options j
    → Tells (get_or l.holders j 0) (λ y. nat_lt y l.x && held_at l.problem.puzzle l.options j y)

abbrev pub invariant-loop-u-2 : goal.invariant-loop-u-2
invariant-loop-u-2 l = (j : ℕ) → IsMet l.problem.puzzle l.items l.options j
    → Tells (get_or l.holders j 0) (λ y. (nat_lt y l.x && held_at l.problem.puzzle l.options j y)
    || ((y == l.x) && is_some (colour_in (take l.u-index l.u-items) j)))
