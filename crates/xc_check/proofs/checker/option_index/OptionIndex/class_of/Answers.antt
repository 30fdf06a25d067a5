use Rattle.std.proofs.lemmas.Bool.Decides.{nat_tests}
use Rattle.std.proofs.Common.{arith}
use Rattle.std.proofs.Common.{◌∙◌, ap}
use Rattle.xc_check.specs.inner.Classes.{class_of}
use Rattle.xc_check.proofs.CheckLemmas.{no-uses, class-found, some-uses}
use Rattle.xc_check.proofs.checker.option_index.OptionIndex.class_of.Goals as goal

pub returns-then-not-branch-clause-class : goal.returns-then-not-branch-clause-class
returns-then-not-branch-clause-class c = grind (arith, no-uses)

pub returns-clause-class : goal.returns-clause-class
returns-clause-class c =
    let have = rw c.if-not-branch.false at c.in_ok-read_uses.ensures in
    let class = class-found _ _ _ c.self.invariant.index _ _ _ _ have (some-uses _ c.args.body.now _ have)
    (c.as_slice.ensures.value ∙ c.in_ok-rotate.ensures ∙ ap class_of c.deref.ensures.value) c.get_index_of.ensures.index
    in
    grind (arith, nat_tests, c.self.view_is)
