use Rattle.std.proofs.Common.{◌≡◌, ◌+◌, ◌*◌, subst₂, sym}
use Rattle.std.proofs.lemmas.Result.{on_ok_weaker}
use Rattle.xc_count.specs.inner.Worth.{worth_by}
use Rattle.xc_count.proofs.holding.HoldingPassOn.pass_on.Goals as goal

pub returns-clause-worth : goal.returns-clause-worth
returns-clause-worth g c = on_ok_weaker c.hold.result (λ left f k w. subst₂
    (λ x y. worth_by y c.hold.new.layer.states.items
    ≡ worth_by y c.args.next.now.states.items + c.args.state.now.worth * x c.args.state.now.key.items)
    (sym w.1) (sym w.2) (left w.0)) c.hold.ensures.left
