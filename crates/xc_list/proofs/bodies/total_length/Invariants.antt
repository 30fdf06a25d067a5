use Rattle.std.proofs.Common.{◌≡◌, ◌+◌, ◌-◌, ◌≤◌, ◌^◌, length, min, drop}
use Rattle.std.specs.Prelude.{flat_map}
use Rattle.xc_list.specs.inner.Writing.{uses_text}
use Rattle.xc_list.proofs.bodies.total_length.Given as goal

abbrev pub invariant-loop-o : goal.invariant-loop-o
invariant-loop-o l = record {
  fits : l.total ≤ 2 ^ 64 - 1;
  counted : min (l.total + length (flat_map (uses_text l.problem) (drop l.o l.problem.puzzle.options))) (2 ^ 64 - 1)
      ≡ min (length (flat_map (uses_text l.problem) l.problem.puzzle.options)) (2 ^ 64 - 1);
}
