use Rattle.std.proofs.Common.{arith}
use Rattle.std.proofs.lemmas.Grind.{common_steps}
use Rattle.xc_search.proofs.BranchLemmas.{all_shown, shown_back, marks_chosen, marks_right}
use Rattle.xc_search.proofs.walk.Walk.marks.Goals as goal

pub returns-clause-marks : goal.returns-clause-marks
returns-clause-marks g c =
    grind (arith, common_steps, marks_chosen c.args.self.now.puzzle c.levels.result.now, c.levels.ensures.levels)

pub returns-clause-right : goal.returns-clause-right
returns-clause-right g c =
    let at = c.self.inside.standing in
    rw (← c.self.view_is, c.new.ensures) (marks_right at.position.puzzle c.levels.result.now
    (shown_back at.position.puzzle c.levels.result.now (grind (arith, all_shown, at))))
