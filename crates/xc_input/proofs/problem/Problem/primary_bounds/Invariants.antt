use Rattle.std.proofs.Common.{◌≡◌, take}
use Rattle.xc_input.proofs.problem.Problem.primary_bounds.Given as goal

abbrev pub invariant-loop-i : goal.invariant-loop-i
invariant-loop-i l = l.bounds.items ≡ take l.i l.self.puzzle.bounds
