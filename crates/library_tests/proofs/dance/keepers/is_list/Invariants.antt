use Rattle.std.proofs.Common.{◌≡◌, ℕ, Some}
use Rattle.std.specs.Prelude.{Contains}
use Rattle.xc_moves.specs.Moves.{listed_numbers}
use Rattle.library_tests.proofs.dance.keepers.is_list.Given as goal

abbrev pub invariant-loop-o : goal.invariant-loop-o
invariant-loop-o g l =
    (x : ℕ) → l.at ≡ Some x → Contains
    (listed_numbers (g.D.Dance.state l.dance).puzzle (g.D.Dance.state l.dance).trail l.i) x
