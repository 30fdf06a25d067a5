use Rattle.std.proofs.Common.{arith}
use Rattle.std.proofs.lemmas.Grind.{common_steps}
use Rattle.std.proofs.lemmas.Slice.Eq.{bytes_eq-Decides}
use Rattle.xc_input.proofs.laws.equality.Goals as goal

pub returns-clause-tokens : goal.returns-clause-tokens
returns-clause-tokens c = λ a b. grind (
  arith,
  common_steps,
  bytes_eq-Decides a.before.now b.before.now,
  bytes_eq-Decides a.token.now b.token.now,
  bytes_eq-Decides a.behind.now b.behind.now,
)

pub returns-clause-items : goal.returns-clause-items
returns-clause-items c = λ a b. grind (arith, common_steps, bytes_eq-Decides a.name.items b.name.items)
