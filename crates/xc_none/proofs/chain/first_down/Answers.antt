use Rattle.std.specs.Prelude.{not, nat_le}
use Rattle.xc_none.specs.Meanings.{is_chosen, held_up_to}
use Rattle.xc_none.proofs.ChainTruths.{first_down_true}
use Rattle.xc_none.proofs.ClaimLemmas.{two_hold}
use Rattle.xc_none.proofs.chain.first_down.Goals as goal

pub returns : goal.returns
returns c = λ p next. two_hold p c.at_least-x.result c.chosen-y.result
    (λ s. not (nat_le 1 (held_up_to p s c.args.chain.item c.args.option))) (λ s. is_chosen s c.args.option)
    (c.at_least-x.ensures p) (c.chosen-y.ensures p)
    (λ s cover. first_down_true p s c.args.chain.item c.args.option next cover)
