use Rattle.std.proofs.Common.{arith}
use Rattle.std.proofs.Common.{sym, subst}
use Rattle.xc_input.specs.inner.Feeding.{IsErrorOf}
use Rattle.xc_input.proofs.LineLemmas.{stays, counts, fails, goes, stage-is}
use Rattle.xc_text.proofs.LineLemmas.{whole-more}
use Rattle.xc_input.proofs.reader.Reader.line.Goals as goal

pub returns-in-Some-clause-state : goal.returns-in-Some-clause-state
returns-in-Some-clause-state c = stays _ _ _ _ _ _ c.after-self-inside.ensures c.in-Some.is c.self.invariant.1

pub invariant_of-self : goal.invariant_of-self
invariant_of-self c = grind (arith, counts, stays, whole-more)

pub returns-in-Err-clause-state : goal.returns-in-Err-clause-state
returns-in-Err-clause-state c =
    let after = c.after-self-inside in
    subst (IsErrorOf c.self.inside.kind after.result.lines) (sym c.at_line-error.ensures)
    (fails c.self.inside.kind _ _ _ after.ensures _ c.in_default.is c.self.invariant.1 c.self.inside.builder
    c.self.invariant.2 _ c.in-Err.e (Unit {0})
    (counts _ _ _ _ _ after.ensures c.self.invariant.0 c.saturating_add-self-inside.ensures) c.in-Err.ensures.judged)

pub invariant_of-self-in-Err : goal.invariant_of-self-in-Err
invariant_of-self-in-Err c = grind (arith, counts, returns-in-Err-clause-state c, whole-more)

pub returns-clause-state : goal.returns-clause-state
returns-clause-state c = grind (arith, goes)

pub invariant_of-self-in_default-take : goal.invariant_of-self-in_default-take
invariant_of-self-in_default-take c = grind (arith, counts, returns-clause-state, stage-is, whole-more)
