use Rattle.std.proofs.Common.{refl}
use Rattle.xc_input.specs.declared.kind.Kind.TheVariants.{Plain, Colours, Bounds}
use Rattle.xc_input.proofs.GrammarLemmas.{stands-also}
use Rattle.xc_input.proofs.laws.kinds_that_allow_more.Goals as goal

pub returns-clause-plain_as_colours : goal.returns-clause-plain_as_colours
returns-clause-plain_as_colours c = stands-also Plain Colours (λ e. e) (λ e. refl)

pub returns-clause-plain_as_bounds : goal.returns-clause-plain_as_bounds
returns-clause-plain_as_bounds c = stands-also Plain Bounds (λ e. refl) (λ e. refl)

pub returns-clause-colours_as_bounds : goal.returns-clause-colours_as_bounds
returns-clause-colours_as_bounds c = stands-also Colours Bounds (λ e. refl) (λ e. e)
