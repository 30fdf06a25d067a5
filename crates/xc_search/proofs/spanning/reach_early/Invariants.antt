use Rattle.std.proofs.Common.{ℕ, ◌≡◌, ◌≤◌, take}
use Rattle.xc_search.specs.inner.Ahead.{numbers}
use Rattle.xc_search.proofs.SpanSteps.{Reaching}
use Rattle.xc_search.proofs.spanning.reach_early.Given as goal

abbrev pub invariant-loop-number : goal.invariant-loop-number
invariant-loop-number g l = record {
  begun : ℕ;
  reaching : Reaching l.initial.state.position l.initial.state.stack l.state.position l.state.stack l.from
      begun;
  row : numbers l.state.stack.levels ≡ take l.number-index l.from;
  few : begun ≤ l.number-index;
}
