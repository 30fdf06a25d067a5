use Rattle.std.proofs.Common.{◌≡◌, length, drop}
use Rattle.xc_input.proofs.OptionLemmas.{AreAmong}
use Rattle.xc_input.proofs.option_line.clear.Given as goal

-- only items of the uses that are left are marked
abbrev pub invariant-loop-u : goal.invariant-loop-u
invariant-loop-u l = (length l.marks ≡ length l.fn.marks) × AreAmong l.marks (drop l.u-index l.uses)
