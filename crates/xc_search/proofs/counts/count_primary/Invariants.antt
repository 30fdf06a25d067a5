use Rattle.std.proofs.Common.{◌≡◌, take}
use Rattle.std.specs.Prelude.{count_by, nat_le}
use Rattle.xc_input.specs.Problem.{primary_count}
use Rattle.xc_input.specs.declared.problem.Use.{Use}
use Rattle.xc_search.proofs.counts.count_primary.Given as goal

abbrev pub invariant-loop-u : goal.invariant-loop-u
invariant-loop-u l =
    l.held ≡ count_by (λ (u : Use). nat_le u.item (primary_count l.problem.puzzle)) (take l.u-index l.uses)
