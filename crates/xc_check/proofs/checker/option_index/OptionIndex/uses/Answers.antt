use Rattle.std.proofs.Common.{arith}
use Rattle.xc_check.proofs.CheckLemmas.{known-uses}
use Rattle.xc_check.proofs.checker.option_index.OptionIndex.uses.Goals as goal

pub returns-clause-known : goal.returns-clause-known
returns-clause-known c = grind (arith, known-uses)
