use Rattle.std.proofs.Common.{arith, ◌∙◌, sym, ap, get_or}
use Rattle.xc_input.specs.declared.problem.Use.{Use}
use Rattle.xc_count.specs.inner.ByOption.{marks_in}
use Rattle.xc_count.proofs.Forgetting.{kept_by, lost_by}
use Rattle.xc_count.proofs.marks.forget.Goals as goal

pub returns-in_default-clause-lost : goal.returns-in_default-clause-lost
returns-in_default-clause-lost c e os a =
    let d : Use = record { item = 0; colour = 0 } in
    let item = (get_or c.args.uses.now c.loop-u.u-index d).item in
    sym (c.loop-u.invariant os a)
    ∙ lost_by c.args.problem.now.puzzle os (marks_in c.loop-u.key.items) item c.mark_at.result c.mark_at-mark.result
    (omega (arith, a item, c.mark_at.ensures)) c.in_default.ensures.none
    (c.mark_at-mark.ensures ∙ ap (λ k. get_or k item 0) c.as_slice.ensures.value)

pub loop-u-preserved : goal.loop-u-preserved
loop-u-preserved c os a =
    let d : Use = record { item = 0; colour = 0 } in
    let item = (get_or c.args.uses.now c.loop-u.u-index d).item in
    kept_by c.args.problem.now.puzzle os (marks_in c.loop-u.key.items) (marks_in c.put_mark.new.key.items) item
    c.mark_at.result c.in-Some.mark c.mark_at-mark.result (omega (arith, a item, c.mark_at.ensures))
    c.in-Some.ensures.some c.in_ok-put_mark.ensures.here
    (c.mark_at-mark.ensures ∙ ap (λ k. get_or k item 0) c.as_slice.ensures.value) c.in_ok-put_mark.ensures.there
    ∙ c.loop-u.invariant os a
