use Rattle.std.proofs.Common.{ap}
use Rattle.xc_moves.specs.Dancing.{Dancing}
use Rattle.xc_search.proofs.BranchLemmas.{entered}
use Rattle.xc_search.proofs.position.Position.enter_option.Goals as goal

pub returns-clause-entered : goal.returns-clause-entered
returns-clause-entered g c =
    entered c.requires.ready c.tweak-tweaks.new.self.trail _ c.requires.option c.requires.place
    (rw c.requires.some.1 c.tweak-tweaks.ensures.tweaks) c.requires.number c.height-base.ensures
    (ap (λ (s : Dancing). s.trail) c.tweak-tweaks.ensures.trail)
