use Rattle.std.proofs.Common.{ℕ, ◌≡◌, ◌+◌, ◌-◌, ◌≤◌, ◌<◌, true, not, List, Option}
use Rattle.std.specs.Prelude.{nat_eq, option_map, ◌^◌}
use Rattle.xc_search.specs.inner.Ahead.{ahead, Pays}
use Rattle.xc_search.specs.inner.Spanning.{Stands, IsRest, IsSeenBy}
use Rattle.xc_search.proofs.levels.run.Given as goal

-- it began so many branches
abbrev pub invariant-loop-at : goal.invariant-loop-at
invariant-loop-at g l = record {
  begun : ℕ;
  count : not (nat_eq g.row.BOUND 0) ≡ true → begun + l.steps ≡ l.initial.steps;
  stands : (u : Option (List ℕ)) → IsSeenBy (not (nat_eq g.row.WAY 0)) u
      (option_map (λ u. u.now) l.initial.until) l.first
      l.initial.steps l.initial.position.puzzle l.initial.stack.levels → Stands l.first u
      l.initial.position l.initial.stack l.initial.more l.position l.stack l.more begun;
  rest : IsRest (option_map (λ u. u.now) l.initial.until) l.position.puzzle l.stack.levels l.last l.first;
  some_last : begun ≡ 0 → 0 < l.last;
  far : not (nat_eq g.row.WAY 0) ≡ true → begun ≡ 0 → 2 ^ 64 - 1 ≤ l.last;
  same : l.until ≡ l.initial.until;
  some : not (nat_eq g.row.BOUND 0) ≡ true → 0 < l.steps;
  pays : l.first ≡ 1 → Pays l.initial.position l.initial.stack true l.initial.more l.position l.stack true l.more;
}

abbrev pub decreases-loop-at : goal.decreases-loop-at
decreases-loop-at g l = ahead l.position.puzzle l.position.trail l.stack.levels true
