use Rattle.std.proofs.Common.{ℕ, ◌≡◌, ◌≤◌, ◌+◌}
use Rattle.std.specs.Prelude.{All, sum_by}
use Rattle.xc_count.specs.Occurrences.{occurrences_of}
use Rattle.xc_count.specs.inner.Passed.{IsKept, taken_by, worth_left}
use Rattle.xc_count.specs.inner.Worth.{EachKey, holds_first}
use Rattle.xc_count.proofs.Having.{having}
use Rattle.xc_count.proofs.forward.keep_layers.Given as goal

abbrev pub invariant-loop-place : goal.invariant-loop-place
invariant-loop-place l = record {
  taken : (x : ℕ) → sum_by (taken_by l.problem.puzzle l.plan x) l.kept.items
      + worth_left (having x) l.problem.puzzle l.plan l.from l.layer.states.items
      ≡ occurrences_of l.problem.puzzle x;
  kept : All (IsKept l.problem.puzzle l.plan) l.kept.items;
  held : EachKey (holds_first l.plan l.place l.from) l.layer.states.items;
  room : l.room + sum_by (λ k. k.layer.bytes) l.kept.items ≡ l.bound;
  within : l.layer.bytes ≤ l.room;
}
