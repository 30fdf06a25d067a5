use Rattle.std.proofs.lemmas.Bool.Decides.{nat_tests}
use Rattle.std.proofs.Common.{arith}
use Rattle.std.proofs.lemmas.Result.{err_from_is_err_and}
use Rattle.xc_text.specs.inner.LineFeeds.{ended}
use Rattle.xc_input.proofs.LineLemmas.{part-none}
use Rattle.xc_input.proofs.read.read_problem_by.Goals as goal

pub read_through-requires-clause-state : goal.read_through-requires-clause-state
read_through-requires-clause-state g c = grind (arith, nat_tests)

pub read_through-requires-clause-nothing : goal.read_through-requires-clause-nothing
read_through-requires-clause-nothing g c = grind (arith, ended)

pub returns-in_err-lines-clause-part : goal.returns-in_err-lines-clause-part
returns-in_err-lines-clause-part g c = grind (arith, err_from_is_err_and, part-none)

pub returns-clause-part : goal.returns-clause-part
returns-clause-part g c = rw c.with_seed-reader.ensures.kind at c.read_through.ensures.part

pub returns-clause-whole : goal.returns-clause-whole
returns-clause-whole g c = rw c.with_seed-reader.ensures.kind at c.read_through.ensures.whole
