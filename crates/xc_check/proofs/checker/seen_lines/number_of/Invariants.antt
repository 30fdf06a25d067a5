use Rattle.std.proofs.Common.{length}
use Rattle.xc_check.proofs.checker.seen_lines.number_of.Given as goal

abbrev pub decreases-loop-text : goal.decreases-loop-text
decreases-loop-text l = length l.text
