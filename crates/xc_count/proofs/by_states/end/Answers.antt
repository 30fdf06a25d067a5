use Rattle.std.proofs.Common.{arith, ◌≡◌, length}
use Rattle.xc_count.proofs.Passed.{ends_below}
use Rattle.xc_count.proofs.by_states.end.Goals as goal

pub returns : goal.returns
returns c p plan once is valid held =
    let len : length c.in_ok-below.below.items ≡ c.len.result = c.in_ok-below.ensures.len in
    ends_below p plan is once valid c.args.from c.in_ok-below.below.items c.args.layer.states.items (omega (arith, len))
    c.in_ok-below.ensures.each held
