use Rattle.std.proofs.Common.{◌++◌, ◌≡◌, ℕ, List, length}
use Rattle.xc_text.specs.Texts.{Took}
use Rattle.xc_text.proofs.write.write_rest.Given as goal

-- what was written so far is a beginning, no failure came, and the rest is left
abbrev pub invariant-loop-rest : goal.invariant-loop-rest
invariant-loop-rest g l =
    (written : List ℕ) × (l.bytes ≡ written ++ l.rest) × Took (g.S.Sink.state l.fn.sink) (g.S.Sink.state l.sink) written

abbrev pub decreases-loop-rest : goal.decreases-loop-rest
decreases-loop-rest g l = length l.rest
