use Rattle.std.proofs.lemmas.Grind.{common_steps}
use Rattle.std.proofs.Common.{arith}
use Rattle.xc_text.proofs.ByteLemmas.{has-all, first_cut}
use Rattle.xc_text.proofs.LineLemmas.{lines_of-part, first_line}
use Rattle.xc_text.proofs.bytes.cut_line.Goals as goal

pub returns-in-Some-clause-whole : goal.returns-in-Some-clause-whole
returns-in-Some-clause-whole c = grind (arith, common_steps, first_cut)

pub returns-in-Some-clause-lines : goal.returns-in-Some-clause-lines
returns-in-Some-clause-lines c = grind (arith, common_steps, first_line, returns-in-Some-clause-whole, first_cut)

pub returns-in-None-clause-whole : goal.returns-in-None-clause-whole
returns-in-None-clause-whole c = grind (arith, has-all)

pub returns-in-None-clause-lines : goal.returns-in-None-clause-lines
returns-in-None-clause-lines c = lines_of-part c.args.text.now (returns-in-None-clause-whole c) c.requires
