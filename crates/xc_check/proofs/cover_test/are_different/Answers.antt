use Rattle.xc_text.proofs.ListLemmas.{each_from, each_in, EachTwo, each_two_from_AllPairs, AllPairs-from_each_two}
use Rattle.xc_check.proofs.ClassLemmas.{any-in, in-any}
use Rattle.std.proofs.Common.{eq-eqb}
use Rattle.std.proofs.lemmas.Bool.Decides.{nat_tests}
use Rattle.std.proofs.lemmas.Bool.{eqb-true}
use Rattle.std.proofs.Common.{arith}
use Rattle.std.proofs.Common.{◌≢◌, refl, subst, sym}
use Rattle.std.proofs.lemmas.List.{nil_from_length}
use Rattle.xc_check.proofs.cover_test.are_different.Goals as goal

pub returns-then-contains : goal.returns-then-contains
returns-then-contains c = grind (arith, each_two_from_AllPairs, in-any, each_in, eqb-true)

pub loop-first-preserved : goal.loop-first-preserved
loop-first-preserved c = grind (arith, each_from, any-in, eq-eqb, nat_tests)

pub returns : goal.returns
returns c =
    let none = nil_from_length c.loop-first.rest.now c.in_default.ensures.cases in (
      λ h. AllPairs-from_each_two _ c.args.options.now
          (c.loop-first.invariant.all (subst (EachTwo (λ a b. a ≢ b)) (sym none) tt)),
      λ apart. refl,
    )
