use Rattle.std.proofs.Common.{arith}
use Rattle.xc_input.proofs.TokenLemmas.{number_in-tells}
use Rattle.xc_input.proofs.problem.Problem.find_colour.Goals as goal

pub returns-clause-value : goal.returns-clause-value
returns-clause-value c = grind arith

pub returns-clause-found : goal.returns-clause-found
returns-clause-found c = (number_in-tells _ _ _ (returns-clause-value c)).0

pub returns-clause-none : goal.returns-clause-none
returns-clause-none c = (number_in-tells _ _ _ (returns-clause-value c)).1
