use Rattle.std.specs.Prelude.{not, nat_le}
use Rattle.xc_none.specs.Meanings.{is_chosen, held_up_to}
use Rattle.xc_none.proofs.ChainTruths.{most_true}
use Rattle.xc_none.proofs.ClaimLemmas.{two_hold}
use Rattle.xc_none.proofs.chain.most.Goals as goal

pub returns : goal.returns
returns c = λ p b holder behind at high. two_hold p c.chosen-x.result c.at_least-y.result
    (λ s. not (is_chosen s c.args.option))
    (λ s. not (nat_le c.args.high (held_up_to p s c.args.chain.item c.args.before)))
    (c.chosen-x.ensures p) (c.at_least-y.ensures p)
    (λ s cover. rw (← high) (most_true p s c.args.chain.item c.args.before c.args.option b holder behind cover at))
