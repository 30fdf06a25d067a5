use Rattle.std.proofs.Common.{◌≡◌, ◌++◌, map, drop}
use Rattle.xc_list.specs.inner.Writing.{first_item}
use Rattle.xc_list.proofs.bodies.items_of_first_uses.Given as goal

-- those of the options so far, before those of the others
abbrev pub invariant-loop-o : goal.invariant-loop-o
invariant-loop-o l =
    l.firsts.items ++ map first_item (drop l.o l.problem.puzzle.options) ≡ map first_item l.problem.puzzle.options
