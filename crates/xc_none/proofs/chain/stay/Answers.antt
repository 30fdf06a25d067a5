use Rattle.std.specs.Prelude.{not, nat_le}
use Rattle.xc_none.specs.Meanings.{held_up_to}
use Rattle.xc_none.proofs.ChainTruths.{stay_true}
use Rattle.xc_none.proofs.ClaimLemmas.{two_hold}
use Rattle.xc_none.proofs.chain.stay.Goals as goal

pub returns : goal.returns
returns c = λ p behind. two_hold p c.at_least-x.result c.at_least-y.result
    (λ s. not (nat_le c.args.count (held_up_to p s c.args.chain.item c.args.before)))
    (λ s. nat_le c.args.count (held_up_to p s c.args.chain.item c.args.option))
    (c.at_least-x.ensures p) (c.at_least-y.ensures p)
    (λ s cover. stay_true p s c.args.chain.item c.args.before c.args.option c.args.count behind cover)
