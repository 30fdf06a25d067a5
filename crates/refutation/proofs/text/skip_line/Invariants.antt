use Rattle.std.proofs.Common.{◌≡◌}
use Rattle.refutation.proofs.text.skip_line.Given as goal

abbrev pub invariant-loop : goal.invariant-loop
invariant-loop g l = (g.S.Source.state l.source).failures ≡ (g.S.Source.state l.fn.source).failures
