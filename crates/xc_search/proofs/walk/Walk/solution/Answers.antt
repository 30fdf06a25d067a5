use Rattle.std.proofs.Common.{arith}
use Rattle.xc_search.proofs.BranchLemmas.{all_shown, shown_back}
use Rattle.xc_search.proofs.walk.Walk.solution.Goals as goal

pub new-requires : goal.new-requires
new-requires g c =
    let at = c.self.inside.standing in
    record { shown = shown_back at.position.puzzle c.levels.result.now (grind (arith, all_shown, at)) }
