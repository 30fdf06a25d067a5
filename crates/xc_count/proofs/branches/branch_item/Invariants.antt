use Rattle.std.proofs.Common.{◌≡◌}
use Rattle.std.specs.Prelude.{option_map}
use Rattle.xc_search.specs.Listing.{branch_count, first_least}
use Rattle.xc_count.specs.inner.Numbered.{left_by_key}
use Rattle.xc_count.specs.inner.Worth.{says}
use Rattle.xc_count.proofs.ByNumber.{counted, free_of_first}
use Rattle.xc_count.proofs.branches.branch_item.Given as goal

abbrev pub invariant-loop-i : goal.invariant-loop-i
invariant-loop-i l =
    let count = branch_count (left_by_key l.problem.puzzle l.plan l.key) in
    l.best ≡ option_map (counted count) (first_least count (free_of_first l.problem.puzzle (says l.plan 0 l.key) l.i))
