use Rattle.std.proofs.Common.{◌≤◌, ◌-◌, length}
use Rattle.xc_input.proofs.guess.last_word.Given as goal

abbrev pub invariant-loop-n : goal.invariant-loop-n
invariant-loop-n l = (l.n ≤ length l.text) × (l.n ≤ 7)

abbrev pub decreases-loop-n : goal.decreases-loop-n
decreases-loop-n l = length l.text - l.n
