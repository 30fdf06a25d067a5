use Rattle.std.proofs.Common.{take}
use Rattle.xc_list.specs.inner.Writing.{AreLaid}
use Rattle.xc_list.proofs.bodies.lay_out.Given as goal

-- the options so far are laid out
abbrev pub invariant-loop-o : goal.invariant-loop-o
invariant-loop-o l = AreLaid l.problem (take l.o l.problem.puzzle.options) l.tray.bytes.items l.starts.items
