use Rattle.std.proofs.Common.{arith}
use Rattle.xc_text.proofs.ByteLemmas.{has-all}
use Rattle.xc_check.proofs.CheckLemmas.{last_cut, last_word, one_word}
use Rattle.xc_check.proofs.checker.listing_lines.cut_last_word.Goals as goal

pub returns-in_err-k : goal.returns-in_err-k
returns-in_err-k c = grind (arith, one_word, has-all)

pub returns : goal.returns
returns c = grind (arith, last_cut, last_word)
