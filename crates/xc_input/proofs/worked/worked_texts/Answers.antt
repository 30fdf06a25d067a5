use Rattle.std.proofs.Common.{refl}
use Rattle.xc_input.specs.declared.kind.Kind.TheVariants.{Plain, Colours, Bounds}
use Rattle.xc_input.specs.Worked.{commented, coloured, bounded}
use Rattle.xc_input.proofs.LineLemmas.{faultless-stands}
use Rattle.xc_input.proofs.worked.worked_texts.Goals as goal

pub returns-clause-problems : goal.returns-clause-problems
returns-clause-problems c = λ seed. (
  faultless-stands seed Plain commented refl,
  faultless-stands seed Colours coloured refl,
  faultless-stands seed Bounds bounded refl,
)
