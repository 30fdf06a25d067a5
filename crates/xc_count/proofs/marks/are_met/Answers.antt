use Rattle.std.proofs.Common.{arith, ◌+◌, ap}
use Rattle.xc_input.specs.declared.problem.Bounds.{Bounds}
use Rattle.xc_count.specs.inner.ByOption.{marks_in}
use Rattle.xc_count.proofs.Forgetting.{is_met, low_of, not_met}
use Rattle.xc_count.proofs.marks.are_met.Goals as goal

pub returns-then-mark_at-bounds : goal.returns-then-mark_at-bounds
returns-then-mark_at-bounds c =
    let p = c.args.problem.now.puzzle in
    let j = c.loop-i.i + 1 in
    let low = low_of p j _ (c.item.ensures.bounds (omega arith, omega arith)) in
    let is = ap (λ (b : Bounds). b.low) c.bounds.ensures in
    not_met p (marks_in c.args.key.now) j (omega arith) (omega arith)
    (omega (arith, low, is, c.mark_at.ensures, c.if-mark_at-bounds.true))

pub returns : goal.returns
returns c = is_met c.args.problem.now.puzzle (marks_in c.args.key.now)
    (λ j h l. c.loop-i.invariant j h (omega arith))
