use Rattle.std.proofs.Common.{length}
use Rattle.xc_check.proofs.ClassLemmas.{AreRead}
use Rattle.xc_check.proofs.checker.option_index.read_uses.Given as goal

abbrev pub invariant-loop-u : goal.invariant-loop-u
invariant-loop-u l = AreRead l.problem l.body l.text l.uses.items

abbrev pub decreases-loop-u : goal.decreases-loop-u
decreases-loop-u l = length l.text
