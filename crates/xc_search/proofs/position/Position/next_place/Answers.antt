use Rattle.std.proofs.Common.{arith, ◌∙◌}
use Rattle.xc_search.proofs.BranchLemmas.{Seeking, seeking}
use Rattle.xc_search.proofs.position.Position.next_place.Goals as goal
use Rattle.xc_search.proofs.position.Position.next_place.Goals.{Joined-level}

-- where the code looks below
sought : (g : _) (c : Joined-level g)
    → Seeking c.args.self.now.puzzle c.args.self.now.trail c.args.level.now c.if-level.above
sought g c = seeking c.requires.ready c.if-level.above (grind arith)

pub node_below-requires-clause-place : goal.node_below-requires-clause-place
node_below-requires-clause-place g c =
    let s = sought g (goal.at.node_below-requires-clause-place g c).Joined-level in (s.x, s.listed)

pub returns-clause-option : goal.returns-clause-option
returns-clause-option g c =
    let s = sought g (goal.at.returns-clause-option g c).Joined-level in
    c.node_below.ensures.option s.x s.listed ∙ s.next

pub returns-clause-place : goal.returns-clause-place
returns-clause-place g c =
    let s = sought g (goal.at.returns-clause-place g c).Joined-level in
    rw (c.node_below.ensures.option s.x s.listed) (c.node_below.ensures.place s.x s.listed)
