use Rattle.xc_search.proofs.ResidualLemmas.{spent_self}
use Rattle.std.proofs.Common.{arith}
use Rattle.xc_search.proofs.LoopSteps.{open_in}
use Rattle.xc_search.proofs.MoveLemmas.{has_room, sparing_after_spend, legal_node}
use Rattle.xc_search.proofs.position.Position.descend.Goals as goal

pub spend_item-requires : goal.spend_item-requires
spend_item-requires g c =
    let p = c.args.self.now.puzzle in
    let t = c.args.self.now.trail in
    let node = c.requires in
    let known = open_in p t c.args.item node.item node.is_open in
    grind (arith, legal_node, has_room, sparing_after_spend p t c.args.item node.searchable.sparing known)

pub is_walked-walks-requires-clause-spent : goal.is_walked-walks-requires-clause-spent
is_walked-walks-requires-clause-spent g c = grind (arith, spent_self)
