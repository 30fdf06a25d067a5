use Rattle.std.proofs.Common.{arith}
use Rattle.std.proofs.lemmas.Fmt.{length-decimal-le}
use Rattle.std.proofs.lemmas.List.{length-set}
use Rattle.xc_list.proofs.Writing.{header_held, header_behind}
use Rattle.xc_list.proofs.page.put_header.Goals as goal

pub write_digits-from-requires : goal.write_digits-from-requires
write_digits-from-requires c = grind (arith, length-set, length-decimal-le)

pub returns-clause-put : goal.returns-clause-put
returns-clause-put c = grind (arith, header_held)

pub returns-clause-behind : goal.returns-clause-behind
returns-clause-behind c = grind (arith, header_behind)
