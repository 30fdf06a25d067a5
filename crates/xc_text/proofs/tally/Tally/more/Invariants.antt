use Rattle.std.proofs.Common.{◌+◌}
use Rattle.xc_text.proofs.tally.Tally.more.Given as goal

abbrev pub ghost-of : goal.ghost-of
ghost-of a = a._from.now.0.now.count + a._from.now.1.now
