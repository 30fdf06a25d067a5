use Rattle.std.proofs.Common.{◌+◌}
use Rattle.std.specs.Prelude.{not, nat_le}
use Rattle.xc_none.specs.Meanings.{is_chosen, held_up_to}
use Rattle.xc_none.proofs.ChainTruths.{up_true}
use Rattle.xc_none.proofs.ClaimLemmas.{three_hold}
use Rattle.xc_none.proofs.chain.up.Goals as goal

pub returns : goal.returns
returns c = λ p holder behind. three_hold p c.chosen-x.result c.at_least-y.result c.at_least-z.result
    (λ s. not (is_chosen s c.args.option))
    (λ s. not (nat_le c.args.count (held_up_to p s c.args.chain.item c.args.before)))
    (λ s. nat_le (c.args.count + 1) (held_up_to p s c.args.chain.item c.args.option))
    (c.chosen-x.ensures p) (c.at_least-y.ensures p) (c.at_least-z.ensures p)
    (λ s cover. up_true p s c.args.chain.item c.args.before c.args.option c.args.count holder behind)
