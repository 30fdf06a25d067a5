use Rattle.std.proofs.Common.{ℕ, ◌≡◌, List, sym, ◌∙◌, subst}
use Rattle.std.specs.Prelude.{Contains}
use Rattle.refutation.specs.inner.Derivations.{TakesClause}
use Rattle.refutation.proofs.DerivationLemmas.{entails_axiom}
use Rattle.refutation.proofs.refuting.given.Goals as goal

pub loop-clause-preserved : goal.loop-clause-preserved
loop-clause-preserved c =
    let among : Contains c.args.formula.now c.clause-item.result =
    (c.loop-clause.clause-index, c.loop-clause-test.true, sym c.clause-item.is) in
    let e : c.in_ok-from_slice.field-0.items ≡ c.clause-item.result.items =
    c.in_ok-from_slice.ensures.items ∙ c.as_slice.ensures.value in
    let t : TakesClause c.loop-clause.derivation c.clause-item.result.items c.take.new.self =
    subst (λ (xs : List ℕ). TakesClause c.loop-clause.derivation xs c.take.new.self) e c.in_ok-take.ensures in
    entails_axiom c.args.formula.now c.loop-clause.derivation c.take.new.self c.clause-item.result among t
    c.loop-clause.invariant
