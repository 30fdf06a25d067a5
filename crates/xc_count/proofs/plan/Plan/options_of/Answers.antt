use Rattle.std.proofs.Common.{[], map, ◌∙◌, ap}
use Rattle.std.specs.Prelude.{unwrap_or}
use Rattle.xc_input.specs.Problem.{numbered_get}
use Rattle.xc_count.proofs.plan.Plan.options_of.Goals as goal

pub returns : goal.returns
returns c p plan item = c.list_of.ensures
    ∙ ap (λ ls. unwrap_or (numbered_get (map (λ l. l.items) ls) c.args.item) []) c.as_slice.ensures.value
    ∙ ap (λ o. unwrap_or o []) (plan.holders c.args.item item)
