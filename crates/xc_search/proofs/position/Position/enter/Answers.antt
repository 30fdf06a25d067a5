use Rattle.std.proofs.Common.{ne_eqb}
use Rattle.std.proofs.Common.{arith, ◌≡◌, None, refl}
use Rattle.xc_search.specs.inner.Levels.{next_number}
use Rattle.xc_search.proofs.LoopSteps.{at_own, ground_is}
use Rattle.xc_search.proofs.BranchLemmas.{entered}
use Rattle.xc_search.proofs.position.Position.enter.Goals as goal

pub returns-then-place-level-clause-entered : goal.returns-then-place-level-clause-entered
returns-then-place-level-clause-entered g c =
    let s = c.args.self.now in
    let none : next_number s.puzzle s.trail c.args.level.now ≡ None = grind (arith, at_own) in
    entered c.requires.ready s.trail _ c.next_place-place.ensures.option c.next_place-place.ensures.place
    (rw none refl) c.requires.number c.requires.ready.whole (ground_is c.requires.ready.level c.requires.ready.whole)

pub enter_option-requires-clause-some : goal.enter_option-requires-clause-some
enter_option-requires-clause-some g c = grind (arith, ne_eqb)
