use Rattle.xc_least.proofs.least_cover.improved.Given as goal

abbrev pub decreases-loop-left : goal.decreases-loop-left
decreases-loop-left g l = l.left
