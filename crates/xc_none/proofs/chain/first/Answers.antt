use Rattle.std.specs.Prelude.{not, nat_le}
use Rattle.xc_none.specs.Meanings.{is_chosen, held_up_to}
use Rattle.xc_none.proofs.ChainTruths.{first_true}
use Rattle.xc_none.proofs.ClaimLemmas.{two_hold}
use Rattle.xc_none.proofs.chain.first.Goals as goal

pub returns : goal.returns
returns c = λ p holder. two_hold p c.chosen-x.result c.at_least-y.result
    (λ s. not (is_chosen s c.args.option)) (λ s. nat_le 1 (held_up_to p s c.args.chain.item c.args.option))
    (c.chosen-x.ensures p) (c.at_least-y.ensures p)
    (λ s cover. first_true p s c.args.chain.item c.args.option holder)
