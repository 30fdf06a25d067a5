use Rattle.xc_list.proofs.ProblemTexts.{numbers-tell}
use Rattle.xc_list.proofs.laws.problems_by_numbers.Goals as goal

pub returns : goal.returns
returns c a b ha hb same = numbers-tell a b ha hb same
