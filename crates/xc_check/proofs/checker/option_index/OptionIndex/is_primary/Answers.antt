use Rattle.std.proofs.Common.{arith}
use Rattle.xc_check.proofs.CheckLemmas.{any-take-number, any-take-no_number}
use Rattle.xc_check.proofs.checker.option_index.OptionIndex.is_primary.Goals as goal

pub returns-in-Some : goal.returns-in-Some
returns-in-Some c = grind (arith, any-take-number)

pub returns-in-None : goal.returns-in-None
returns-in-None c = grind (arith, any-take-no_number)
