use Rattle.std.proofs.Common.{ℕ, ◌≡◌, false, List, [], ◌∷◌, ◌++◌, get_or, sym, ap, ◌∙◌, subst}
use Rattle.refutation.specs.Refutation.{negated}
use Rattle.refutation.specs.inner.Steps.{Assumes}
use Rattle.refutation.proofs.ClauseLemmas.{assumes_more}
use Rattle.refutation.proofs.derivation.assume.Goals as goal
use Rattle.refutation.proofs.derivation.assume.Goals.{then-not-is_false+in_ok-push, else-not-is_false}

pub loop-literal-preserved : goal.loop-literal-preserved
loop-literal-preserved c =
    let clause : List ℕ = c.args.clause.now in
    let old : List ℕ = c.args.trail.now in
    let mid : List ℕ = c.loop-literal.trail in
    let m : ℕ = negated (get_or clause c.loop-literal.literal-index 0) in
    elim c.if-not-is_false.branch [
      | then-not-is_false+in_ok-push w ↦
          (let x : Assumes clause old false (mid ++ m ∷ []) =
          assumes_more clause old mid c.loop-literal.literal-index c.loop-literal-test.true c.loop-literal.invariant in
          let e : c.if-not-is_false.trail ≡ mid ++ m ∷ [] =
          w.trail-is ∙ (w.in_ok-push.ensures ∙ ap (λ (n : ℕ). mid ++ n ∷ []) c.negated-opposite.ensures) in
          subst (λ (t : List ℕ). Assumes clause old false t) (sym e) x)
      | else-not-is_false w ↦
          subst (λ (t : List ℕ). Assumes clause old false t) (sym w.trail-is) c.loop-literal.invariant
    ]
