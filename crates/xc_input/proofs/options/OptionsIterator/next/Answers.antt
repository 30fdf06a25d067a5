use Rattle.std.proofs.Common.{arith}
use Rattle.std.proofs.lemmas.List.{drop_all}
use Rattle.xc_input.proofs.TokenLemmas.{numbered_get-at}
use Rattle.xc_text.proofs.ListLemmas.{drop_at}
use Rattle.xc_input.proofs.options.OptionsIterator.next.Goals as goal

-- what is left begins with the element of the next number
pub returns-clause-steps : goal.returns-clause-steps
returns-clause-steps c = grind (arith, drop_at, numbered_get-at)

pub returns-then-self-options-clause-steps : goal.returns-then-self-options-clause-steps
returns-then-self-options-clause-steps c = grind (arith, drop_all)
