use Rattle.std.specs.Prelude.{not, nat_le}
use Rattle.xc_none.specs.Meanings.{is_chosen, held_up_to}
use Rattle.xc_none.proofs.ChainTruths.{down_true}
use Rattle.xc_none.proofs.ClaimLemmas.{three_hold}
use Rattle.xc_none.proofs.chain.down.Goals as goal

pub returns : goal.returns
returns c = λ p next. three_hold p c.at_least-x.result c.at_least-y.result c.chosen-z.result
    (λ s. not (nat_le c.args.count (held_up_to p s c.args.chain.item c.args.option)))
    (λ s. nat_le c.args.count (held_up_to p s c.args.chain.item c.args.before))
    (λ s. is_chosen s c.args.option)
    (c.at_least-x.ensures p) (c.at_least-y.ensures p) (c.chosen-z.ensures p)
    (λ s cover. down_true p s c.args.chain.item c.args.before c.args.option c.args.count next cover)
