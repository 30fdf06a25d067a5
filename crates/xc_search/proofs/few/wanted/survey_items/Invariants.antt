use Rattle.std.proofs.Common.{◌-◌, ◌*◌, ◌^◌, ◌≡◌, ◌≤◌, ◌⊎◌}
use Rattle.xc_input.specs.Problem.{primary_count}
use Rattle.xc_moves.specs.Moves.{IsOpenPrimary}
use Rattle.xc_search.proofs.few.wanted.survey_items.Given as goal

abbrev pub invariant-loop-i : goal.invariant-loop-i
invariant-loop-i g l = record {
  at_open : (l.at ≡ 0) ⊎ IsOpenPrimary l.problem.puzzle (g.D.Dance.state l.dance).trail l.at;
  few : l.seen ≤ 256;
  short : l.total ≤ 2 ^ 32 * l.seen;
  needed : l.needed ≤ 64;
}

abbrev pub decreases-loop-i : goal.decreases-loop-i
decreases-loop-i g l = primary_count l.problem.puzzle - l.at
