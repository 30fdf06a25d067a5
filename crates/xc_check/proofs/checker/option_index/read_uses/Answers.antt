use Rattle.std.proofs.Common.{arith}
use Rattle.xc_check.proofs.ClassLemmas.{first_word, read-none}
use Rattle.xc_check.proofs.checker.option_index.read_uses.Goals as goal

pub returns-in-None : goal.returns-in-None
returns-in-None c = grind (arith, first_word, read-none)
