use Rattle.std.proofs.Common.{arith}
use Rattle.std.specs.Prelude.{not}
use Rattle.std.specs.List.{list_any}
use Rattle.xc_none.specs.Meanings.{is_chosen}
use Rattle.xc_none.proofs.ColourTruths.{up_to, enter_true}
use Rattle.xc_none.proofs.ClaimLemmas.{two_hold}
use Rattle.xc_none.proofs.coloured.enter.Goals as goal

pub returns : goal.returns
returns c = λ p at. two_hold p c.chosen-x.result c.up_to-y.result
    (λ s. not (is_chosen s c.args.option)) (λ s. list_any (up_to p c.args.groups.item c.args.place) s)
    (c.chosen-x.ensures p) (c.up_to-y.ensures p)
    (λ s cover. enter_true p s c.args.groups.item c.args.option at.0 c.args.place at.1 (omega (arith, at.2)))
