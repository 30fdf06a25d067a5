use Rattle.std.proofs.Common.{◌≡◌, ℕ, Some}
use Rattle.xc_moves.specs.Moves.{IsOpenPrimary}
use Rattle.library_tests.proofs.dance.keepers.are_open.Given as goal

abbrev pub invariant-loop-i : goal.invariant-loop-i
invariant-loop-i g l =
    (x : ℕ) → l.next ≡ Some x → IsOpenPrimary (g.D.Dance.state l.dance).puzzle (g.D.Dance.state l.dance).trail x
