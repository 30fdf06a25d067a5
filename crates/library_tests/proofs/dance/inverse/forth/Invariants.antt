use Rattle.std.proofs.Common.{◌≡◌}
use Rattle.library_tests.proofs.dance.inverse.forth.Given as goal

abbrev pub invariant-loop-step : goal.invariant-loop-step
invariant-loop-step g l = (g.D.Dance.state l.dance).puzzle ≡ (g.D.Dance.state l.fn.dance).puzzle
