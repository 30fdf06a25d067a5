use Rattle.std.specs.Bool.{⊤}
use Rattle.xc_count.proofs.planning.has_past.Given as goal

abbrev pub invariant-loop-u : goal.invariant-loop-u
invariant-loop-u l = ⊤
