use Rattle.std.proofs.Common.{arith, ◌≡◌, ◌*◌, ap, subst, sym}
use Rattle.xc_count.specs.inner.Worth.{EachKey, worth_by}
use Rattle.xc_count.proofs.counted.layer_of.Goals as goal

pub returns-clause-worth : goal.returns-clause-worth
returns-clause-worth c = λ f.
    let none : worth_by f c.new-layer.result.states.items ≡ 0 = ap (worth_by f) c.new-layer.ensures.none in
    let more = c.in_ok-add_ways.ensures.worth f in
    let one = ap (λ n. n * f c.args.key.now) c.from_u64.ensures in
    omega (arith, none, more, one)

pub returns-clause-keys : goal.returns-clause-keys
returns-clause-keys c = λ q held. c.in_ok-add_ways.ensures.keys q
    (subst (EachKey q) (sym c.new-layer.ensures.none) (λ k d h. absurd (omega (arith, h)))) held
