use Rattle.std.proofs.Common.{ℕ, ◌≡◌, ◌≤◌, false}
use Rattle.xc_moves.specs.Dancing.{moves_made}
use Rattle.xc_search.specs.inner.Ahead.{visits, GoesOn, KeepsPath, Pays}
use Rattle.xc_search.proofs.SpanSteps.{IsOldest}
use Rattle.xc_search.proofs.levels.resume.Given as goal

-- what the levels have still to give is what they had
abbrev pub invariant-loop-level : goal.invariant-loop-level
invariant-loop-level g l = record {
  goes_on : GoesOn l.initial.position l.initial.stack false l.position l.stack false;
  path : KeepsPath l.initial.position l.initial.stack l.position l.stack;
  oldest : IsOldest l.initial.stack l.stack;
  pays : (m : ℕ) → Pays l.initial.position l.initial.stack false m l.position l.stack false m;
  less : visits l.position.puzzle l.position.trail l.stack.levels ≤ visits l.initial.position.puzzle
      l.initial.position.trail l.initial.stack.levels;
  begun : l.stack.begun ≡ l.initial.stack.begun;
  made : moves_made l.position ≡ moves_made l.initial.position;
}

abbrev pub decreases-loop-level : goal.decreases-loop-level
decreases-loop-level g l = visits l.position.puzzle l.position.trail l.stack.levels
