use Rattle.std.proofs.Common.{◌^◌, ◌-◌}
use Rattle.xc_count.proofs.rival.Rival.progress.Given as goal

abbrev pub decreases-loop-number : goal.decreases-loop-number
decreases-loop-number l = 2 ^ 64 - l.place
