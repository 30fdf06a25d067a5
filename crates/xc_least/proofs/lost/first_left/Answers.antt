use Rattle.std.proofs.Common.{arith, eqb, eqb-true, subst, ◌⊎◌, ℕ, ◌+◌}
use Rattle.std.specs.Prelude.{Contains}
use Rattle.std.proofs.lemmas.Bool.Decides.{nat_tests}
use Rattle.xc_text.proofs.ListLemmas.{by_bool}
use Rattle.xc_least.specs.inner.Regions.{IsExcluded, newest, surplus_at, taken_of}
use Rattle.xc_least.proofs.lost.first_left.Goals as goal

pub loop-place-preserved : goal.loop-place-preserved
loop-place-preserved c = λ o low high.
    let ds = newest c.args.decided.now.steps.items in
    let P : ℕ → Type 0 = λ o. Contains (taken_of ds) o
    ⊎ IsExcluded c.args.problem.now.puzzle (surplus_at c.args.surplus.now) c.args.gap ds o in
    by_bool (eqb (c.loop-place.place + 1) o)
    (λ e. subst P (eqb-true (c.loop-place.place + 1) o e) (c.is_over.ensures c.if-not-is_over.false))
    (λ n. c.loop-place.invariant o low (grind (arith, nat_tests, n)))

pub returns : goal.returns
returns c = λ o known.
    c.loop-place.invariant o known.0
    (omega (arith, known.1, c.options-place-end.ensures.value, c.loop-place-test.false))
