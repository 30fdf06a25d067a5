use Rattle.std.proofs.Common.{arith}
use Rattle.xc_text.specs.Words.{has}
use Rattle.xc_check.proofs.ClassLemmas.{plain-word, cut-word}
use Rattle.xc_check.proofs.checker.option_index.use_of.Goals as goal

pub returns-in_err-item-in-None : goal.returns-in_err-item-in-None
returns-in_err-item-in-None c = grind (arith, plain-word, has)

pub returns-in_err-item-in-Some : goal.returns-in_err-item-in-Some
returns-in_err-item-in-Some c = grind (arith, cut-word)

pub returns-in_err-colour-in-Some : goal.returns-in_err-colour-in-Some
returns-in_err-colour-in-Some c = grind (arith, cut-word)
