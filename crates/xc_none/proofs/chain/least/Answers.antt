use Rattle.std.specs.Prelude.{nat_le}
use Rattle.xc_none.specs.Meanings.{held_up_to}
use Rattle.xc_none.proofs.ChainTruths.{least_true}
use Rattle.xc_none.proofs.ClaimLemmas.{one_holds}
use Rattle.xc_none.proofs.chain.least.Goals as goal

pub returns : goal.returns
returns c = λ p b last at low. one_holds p c.at_least-x.result
    (λ s. nat_le c.args.count (held_up_to p s c.args.chain.item c.args.option)) (c.at_least-x.ensures p)
    (λ s cover. least_true p s c.args.chain.item c.args.option c.args.count b last at low cover)
