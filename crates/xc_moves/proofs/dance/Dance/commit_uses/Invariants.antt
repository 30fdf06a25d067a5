use Rattle.std.proofs.Common.{◌≡◌, drop}
use Rattle.xc_moves.proofs.LeftLemmas.{committed}
use Rattle.xc_moves.proofs.dance.Dance.commit_uses.Given as goal

abbrev pub invariant-loop-u : goal.invariant-loop-u
invariant-loop-u g l =
    committed (drop l.u-index l.uses) (g.Self.Dance.state l.self) ≡ committed l.uses (g.Self.Dance.state l.initial.self)
