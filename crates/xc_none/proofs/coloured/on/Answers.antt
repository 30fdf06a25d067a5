use Rattle.std.specs.Prelude.{not}
use Rattle.std.specs.List.{list_any}
use Rattle.xc_none.proofs.ColourTruths.{up_to, on_true}
use Rattle.xc_none.proofs.ClaimLemmas.{two_hold}
use Rattle.xc_none.proofs.coloured.on.Goals as goal

pub returns : goal.returns
returns c = λ p behind. two_hold p c.up_to-x.result c.up_to-y.result
    (λ s. not (list_any (up_to p c.args.groups.item c.args.before) s))
    (λ s. list_any (up_to p c.args.groups.item c.args.place) s)
    (c.up_to-x.ensures p) (c.up_to-y.ensures p)
    (λ s cover. on_true p s c.args.groups.item c.args.before c.args.place behind)
