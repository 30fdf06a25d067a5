use Rattle.std.proofs.Common.{ℕ, ◌≡◌, List}
use Rattle.xc_count.specs.inner.ByOption.{AtMost, ways_from}
use Rattle.xc_count.proofs.marks.forget.Given as goal

abbrev pub invariant-loop-u : goal.invariant-loop-u
invariant-loop-u l = (os : List ℕ) → AtMost l.problem.puzzle os l.left
    → ways_from l.problem.puzzle os l.key.items ≡ ways_from l.problem.puzzle os l.initial.key.items
