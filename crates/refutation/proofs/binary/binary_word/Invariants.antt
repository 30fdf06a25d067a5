use Rattle.std.proofs.Common.{◌≡◌}
use Rattle.refutation.proofs.binary.binary_word.Given as goal

abbrev pub invariant-loop-place : goal.invariant-loop-place
invariant-loop-place g l = (g.S.Source.state l.source).failures ≡ (g.S.Source.state l.fn.source).failures
