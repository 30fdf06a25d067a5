use Rattle.std.proofs.lemmas.List.{length-map}
use Rattle.std.proofs.Common.{arith}
use Rattle.std.proofs.lemmas.Bool.Decides.{nat_tests}
use Rattle.xc_input.proofs.OptionLemmas.{new-number}
use Rattle.xc_input.proofs.TokenLemmas.{distinct-more}
use Rattle.xc_input.proofs.colours.number_colour.Goals as goal

pub returns-clause-number : goal.returns-clause-number
returns-clause-number c = grind (arith, nat_tests, new-number, length-map)

pub returns-clause-distinct : goal.returns-clause-distinct
returns-clause-distinct c = grind (arith, distinct-more)
