use Rattle.std.proofs.Common.{ℕ, List, length}
use Rattle.xc_input.specs.Tokens.{parts}
use Rattle.xc_input.specs.Faults.{part_checks}
use Rattle.xc_input.specs.inner.Builders.{IsItemTable, row_of_line}
use Rattle.xc_input.proofs.FaultLemmas.{IsReadTo}
use Rattle.xc_input.proofs.GrammarLemmas.{IsRowOf}
use Rattle.xc_input.proofs.faulty.faulty_behind.Given as goal

-- the parts so far have no fault, and the items are theirs
abbrev pub invariant-loop-part : goal.invariant-loop-part
invariant-loop-part l = IsItemTable l.items × (others : List (List ℕ)) × IsRowOf l.kind (row_of_line l.items) others
    × IsReadTo parts (part_checks l.kind) l.line l.rest others

abbrev pub decreases-loop-part : goal.decreases-loop-part
decreases-loop-part l = length l.rest
