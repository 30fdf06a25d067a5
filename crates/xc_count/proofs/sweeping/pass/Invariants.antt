use Rattle.std.proofs.Common.{ℕ, ◌≡◌, ◌≤◌, ◌+◌, List, length}
use Rattle.xc_count.specs.inner.Worth.{EachKey, worth_by}
use Rattle.xc_count.proofs.sweeping.pass.Given as goal

abbrev pub invariant-loop-state : goal.invariant-loop-state
invariant-loop-state g l = record {
  worth : (f h : List ℕ → ℕ) → g.P.PassOn.weighs l.passing f h
      → worth_by f (g.S.States.left l.states) + worth_by h l.next.states.items
      ≡ worth_by f (g.S.States.left l.initial.states);
  takes : EachKey (g.P.PassOn.takes l.passing) (g.S.States.left l.states);
  makes : EachKey (g.P.PassOn.makes l.passing) l.next.states.items;
  room : l.next.bound ≤ l.room;
  same : g.B.Beside.searched l.beside ≡ g.B.Beside.searched l.initial.beside;
}

abbrev pub decreases-loop-state : goal.decreases-loop-state
decreases-loop-state g l = length (g.S.States.left l.states)
