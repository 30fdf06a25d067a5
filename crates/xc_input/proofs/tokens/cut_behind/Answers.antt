use Rattle.std.proofs.Common.{arith}
use Rattle.xc_input.proofs.TokenLemmas.{by-first}
use Rattle.xc_input.proofs.FaultLemmas.{take-word}
use Rattle.xc_input.proofs.tokens.cut_behind.Goals as goal

pub returns-in-len1-up-clause-cut : goal.returns-in-len1-up-clause-cut
returns-in-len1-up-clause-cut c = grind (arith, by-first, take-word)
