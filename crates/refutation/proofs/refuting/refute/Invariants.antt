use Rattle.std.specs.Prelude.{◌≡◌}
use Rattle.refutation.specs.inner.Derivations.{Entails}
use Rattle.refutation.proofs.refuting.refute.Given as goal

abbrev pub invariant-loop-number : goal.invariant-loop-number
invariant-loop-number g l = record {
  entails : Entails l.formula l.derivation;
  no_failure : (g.S.Source.state l.source).failures ≡ (g.S.Source.state l.fn.source).failures;
}
