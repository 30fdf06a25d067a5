use Rattle.std.proofs.Common.{◌-◌, ◌≡◌, ◌⊎◌}
use Rattle.std.specs.Prelude.{IfSome}
use Rattle.xc_input.specs.Problem.{primary_count}
use Rattle.xc_moves.specs.Moves.{IsOpenPrimary}
use Rattle.xc_search.specs.inner.FewBounded.{IsCappedAt}
use Rattle.xc_search.proofs.few.wanted.most_taken.Given as goal

abbrev pub invariant-loop-i : goal.invariant-loop-i
invariant-loop-i g l = record {
  at_open : (l.at ≡ 0) ⊎ IsOpenPrimary l.problem.puzzle (g.D.Dance.state l.dance).trail l.at;
  capped : IfSome l.most (IsCappedAt l.problem.puzzle (g.D.Dance.state l.dance).trail l.options);
}

abbrev pub decreases-loop-i : goal.decreases-loop-i
decreases-loop-i g l = primary_count l.problem.puzzle - l.at
