use Rattle.std.proofs.Common.{sym}
use Rattle.xc_moves.specs.Moves.{IsOpenPrimary}
use Rattle.xc_search.proofs.ResidualLemmas.{once_more}
use Rattle.xc_moves.proofs.MoveLemmas.{next_above-open}
use Rattle.xc_search.proofs.branch_item.without_branches.Goals as goal
use Rattle.xc_search.proofs.branch_item.without_branches.Goals.{In_ok-at}

opens : (g : _) (c : In_ok-at g)
    → IsOpenPrimary c.args.problem.now.puzzle (g.D.Dance.state c.args.dance.now).trail c.in_ok-at.at
opens g c =
    next_above-open c.args.problem.now.puzzle (g.D.Dance.state c.args.dance.now).trail c.loop.at c.in_ok-at.at
    (sym (rw c.requires.same at c.in_ok-at.ensures))

pub branches_of-requires-clause-open : goal.branches_of-requires-clause-open
branches_of-requires-clause-open g c = opens g (goal.at.branches_of-requires-clause-open g c).In_ok-at

pub branches_of-requires-clause-once : goal.branches_of-requires-clause-once
branches_of-requires-clause-once g c h =
    once_more c.args.problem.now.puzzle (g.D.Dance.state c.args.dance.now).trail c.in_ok-at.at (c.requires.once h)
    (opens g (goal.at.branches_of-requires-clause-once g c).In_ok-at)

pub returns-then-branches_of-eq0-clause-open : goal.returns-then-branches_of-eq0-clause-open
returns-then-branches_of-eq0-clause-open g c =
    opens g (goal.at.returns-then-branches_of-eq0-clause-open g c).In_ok-at

pub loop-preserved : goal.loop-preserved
loop-preserved g c = opens g (goal.at.loop-preserved g c).In_ok-at
