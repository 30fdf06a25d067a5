use Rattle.xc_none.proofs.HolderLemmas.{AreListedWith}
use Rattle.std.proofs.Common.{take}
use Rattle.xc_none.proofs.holders.list_option.Given as goal

abbrev pub invariant-loop-u : goal.invariant-loop-u
invariant-loop-u l = AreListedWith l.problem.puzzle l.option (take l.u-index l.u-items) l.lists.items
