use Rattle.std.proofs.Common.{arith, ◌≡◌, ◌+◌, ◌*◌}
use Rattle.xc_count.specs.inner.Worth.{worth_by}
use Rattle.xc_count.proofs.WorthLemmas.{worth_push}
use Rattle.xc_count.proofs.left.total.Goals as goal

pub loop-state-preserved : goal.loop-state-preserved
loop-state-preserved c =
    let s = c.in-Some.state in
    let popped = c.in-Some.ensures.some in
    let push : worth_by (λ key. 1) c.loop-state.states.items
    ≡ worth_by (λ key. 1) c.pop_state.new.states.items + s.worth * 1 =
    rw popped (worth_push (λ key. 1) c.pop_state.new.states.items s) in
    omega (arith, push, c.in_ok-add_assign.ensures.sum, c.loop-state.invariant)
