use Rattle.std.proofs.Common.{ℕ, ◌≡◌, ◌+◌, ◌*◌, drop}
use Rattle.std.specs.Prelude.{sum_by}
use Rattle.xc_search.specs.Listing.{Residual}
use Rattle.xc_count.specs.inner.Passed.{worth_left, worth_taken}
use Rattle.xc_count.specs.inner.Worth.{EachKey, holds_first, says}
use Rattle.xc_count.proofs.holding.split.Given as goal

abbrev pub invariant-loop-k : goal.invariant-loop-k
invariant-loop-k g l = record {
  left : (h : Residual → ℕ) → worth_left h l.problem.puzzle l.plan l.step.next l.layer.states.items
      + l.state.worth * sum_by (worth_taken h l.problem.puzzle (says l.plan l.step.from l.state.key.items))
      (drop l.k l.options)
      ≡ worth_left h l.problem.puzzle l.plan l.step.next l.initial.layer.states.items
      + l.state.worth * sum_by (worth_taken h l.problem.puzzle (says l.plan l.step.from l.state.key.items)) l.options;
  others : EachKey (holds_first l.plan (l.step.place + 1) l.step.next) l.layer.states.items;
  bound : l.layer.bound ≡ l.initial.layer.bound;
  same : g.B.Beside.searched l.beside ≡ g.B.Beside.searched l.initial.beside;
}
