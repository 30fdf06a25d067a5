use Rattle.xc_search.proofs.BranchLemmas.{may_tweak}
use Rattle.xc_search.proofs.position.Position.tweak.Goals as goal

pub make-requires-clause-legal : goal.make-requires-clause-legal
make-requires-clause-legal g c = (may_tweak c.requires.ready c.requires.option.0 c.if-level.false c.requires.option.1).0

pub make-requires-clause-room : goal.make-requires-clause-room
make-requires-clause-room g c = (may_tweak c.requires.ready c.requires.option.0 c.if-level.false c.requires.option.1).1
