use Rattle.std.proofs.Common.{ap, ◌∙◌, map}
use Rattle.xc_search.specs.Marks.{marked}
use Rattle.xc_search.proofs.BranchLemmas.{marks_chosen, marks_right}
use Rattle.xc_search.proofs.span.SpanAtMember.marks.Goals as goal

pub returns-clause-marks : goal.returns-clause-marks
returns-clause-marks g c =
    let p = c.args.self.now.puzzle in
    ap (map (marked p)) c.new.ensures ∙ marks_chosen p c.levels_shown.result.now ∙ c.levels_shown.ensures.choices

pub returns-clause-right : goal.returns-clause-right
returns-clause-right g c =
    rw c.new.ensures (marks_right c.args.self.now.puzzle c.levels_shown.result.now c.levels_shown.ensures.shown)
