use Rattle.std.proofs.Common.{◌≡◌, drop}
use Rattle.xc_moves.specs.Commits.{first_primary}
use Rattle.xc_moves.proofs.dance.Dance.is_first_at.Given as goal

-- no use before this one is of a primary item
abbrev pub invariant-loop-u : goal.invariant-loop-u
invariant-loop-u g l =
    first_primary l.problem.puzzle (drop l.u-index l.u-items) ≡ first_primary l.problem.puzzle l.u-items
