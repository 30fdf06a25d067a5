use Rattle.std.proofs.Common.{◌+◌}
use Rattle.std.specs.Prelude.{not, nat_le}
use Rattle.xc_none.specs.Meanings.{held_up_to}
use Rattle.xc_none.proofs.ChainTruths.{first_fewer_true}
use Rattle.xc_none.proofs.ClaimLemmas.{one_holds}
use Rattle.xc_none.proofs.chain.first_fewer.Goals as goal

pub returns : goal.returns
returns c = λ p next some. one_holds p c.at_least-x.result
    (λ s. not (nat_le (c.args.count + 1) (held_up_to p s c.args.chain.item c.args.option))) (c.at_least-x.ensures p)
    (λ s cover. first_fewer_true p s c.args.chain.item c.args.option c.args.count next some cover)
