use Rattle.std.proofs.Common.{ℕ, List, subst}
use Rattle.std.specs.Prelude.{Vec}
use Rattle.std.specs.declared.alloc.Global.{Global}
use Rattle.refutation.specs.declared.answer.Answer.{Answer}
use Rattle.refutation.specs.Answers.{IsTrueOf}
use Rattle.refutation.specs.Refutation.{IsUnsatisfiable}
use Rattle.xc_none.proofs.NoneLemmas.{no_cover}
use Rattle.xc_none.proofs.no_cover.has_no_cover.Goals as goal

pub returns-clause-none : goal.returns-clause-none
returns-clause-none g c = λ refuted s cover.
    let f = c.in_ok-formula.formula in
    let none : IsUnsatisfiable c.as_slice.result.now =
    subst (λ (a : Answer). IsTrueOf c.as_slice.result.now a) refuted c.in_ok-refute.ensures.right in
    no_cover c.args.problem.now.puzzle f.meanings.items f.clauses.items c.in_ok-formula.ensures
    (subst (λ (cs : List (Vec ℕ Global)). IsUnsatisfiable cs) c.as_slice.ensures.value none) s cover
