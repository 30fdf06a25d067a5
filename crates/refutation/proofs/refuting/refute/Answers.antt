use Rattle.std.proofs.Common.{Option, subst}
use Rattle.refutation.specs.declared.answer.Answer.{Answer}
use Rattle.refutation.specs.inner.Derivations.{AnswersRightly}
use Rattle.refutation.proofs.DerivationLemmas.{entails_kept, justified}
use Rattle.refutation.proofs.refuting.refute.Goals as goal

pub returns-in-Some-clause-right : goal.returns-in-Some-clause-right
returns-in-Some-clause-right g c =
    justified c.args.formula.now c.judge.new.derivation c.in-Some.answer
    (entails_kept c.args.formula.now c.loop-number.derivation c.judge.new.derivation c.loop-number.invariant.entails
    c.in_ok-judged.ensures.kept)
    (subst (λ (a : Option Answer). AnswersRightly c.judge.new.derivation a) c.in-Some.is c.in_ok-judged.ensures.judged)
