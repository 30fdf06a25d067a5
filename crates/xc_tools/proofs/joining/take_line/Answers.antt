use Rattle.std.proofs.Common.{◌∙◌, ap}
use Rattle.std.proofs.lemmas.Result.{err_from_is_err_and}
use Rattle.xc_text.specs.Texts.{Took}
use Rattle.xc_tools.specs.inner.Joining.{stand_reached}
use Rattle.xc_tools.proofs.Stopped.{adds-more, refused, stands-more, unwritten, whole-more}
use Rattle.xc_tools.proofs.joining.take_line.Goals as goal

pub returns-in_err-act-clause-stops : goal.returns-in_err-act-clause-stops
returns-in_err-act-clause-stops g c =
    let error = err_from_is_err_and c.from_residual.result c.from_residual.ensures.1 in
    rw (error.1, error.2) (refused c.args.lines.now.joint.listed c.args.lines.now.given.lines c.args.line.now _
    c.requires.after.stands c.requires.after.whole c.requires.free _ _ _ c.in_err-act.ensures.step)

pub returns-in_err-write_act-clause-stops : goal.returns-in_err-write_act-clause-stops
returns-in_err-write_act-clause-stops g c =
    let error = err_from_is_err_and c.from_residual-in_err-write_act.result c.from_residual-in_err-write_act.ensures.1
    in
    rw (error.1, error.2) (unwritten c.args.lines.now.joint.listed c.args.lines.now.given.lines c.args.line.now _
    c.requires.after.stands c.requires.after.whole c.requires.free _ _ _ _ _ c.in_ok-act.ensures.step
    (c.in_err-write_act.ensures c.args.line.now c.requires.with_feed))

pub returns-clause-after : goal.returns-clause-after
returns-clause-after g c = record {
  stands = ap (λ b. stand_reached b c.after-lines.result.lines) c.take.ensures.listed
      ∙ ap (stand_reached c.args.lines.now.joint.listed) c.after-lines.ensures
      ∙ stands-more c.args.lines.now.joint.listed c.args.lines.now.given.lines c.args.line.now _
      c.requires.after.stands ∙ ap (λ r. r.0) c.in_ok-act.ensures.step;
  whole = rw c.after-lines.ensures (whole-more _ c.args.line.now c.requires.after.whole c.requires.free);
}

pub returns-clause-adds : goal.returns-clause-adds
returns-clause-adds g c =
    rw c.after-lines.ensures (adds-more c.args.lines.now.joint.listed c.args.lines.now.given.lines c.args.line.now _
    c.requires.after.stands Took _ _ _ _ c.in_ok-act.ensures.step
    (c.in_ok-write_act.ensures c.args.line.now c.requires.with_feed))
