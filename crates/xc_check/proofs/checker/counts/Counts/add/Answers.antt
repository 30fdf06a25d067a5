use Rattle.std.proofs.lemmas.Grind.{common_steps}
use Rattle.std.proofs.Common.{arith}
use Rattle.xc_text.proofs.ListLemmas.{each_two_from_AllPairs}
use Rattle.xc_check.proofs.CountedCovers.{length-coloured, held_once}
use Rattle.xc_check.proofs.checker.counts.Counts.add.Goals as goal

pub loop-u-init : goal.loop-u-init
loop-u-init c = grind (arith, held_once, each_two_from_AllPairs)

pub hold-requires-clause-few : goal.hold-requires-clause-few
hold-requires-clause-few c = grind (arith, common_steps)

pub loop-u-preserved : goal.loop-u-preserved
loop-u-preserved c = grind (arith, common_steps, length-coloured)
