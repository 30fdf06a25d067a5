use Rattle.std.proofs.Common.{◌≡◌, ◌+◌, ◌-◌, ◌≤◌, ◌^◌, length, min, drop}
use Rattle.xc_list.specs.inner.Writing.{uses_text}
use Rattle.xc_list.proofs.bodies.option_length.Given as goal

abbrev pub invariant-loop-u : goal.invariant-loop-u
invariant-loop-u l = record {
  fits : l.total ≤ 2 ^ 64 - 1;
  counted : min (l.total + length (uses_text l.problem (drop l.u-index l.uses))) (2 ^ 64 - 1)
      ≡ min (length (uses_text l.problem l.uses)) (2 ^ 64 - 1);
}
