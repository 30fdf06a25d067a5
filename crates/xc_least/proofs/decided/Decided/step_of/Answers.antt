use Rattle.std.proofs.Common.{arith}
use Rattle.std.proofs.lemmas.List.{get_or_default}
use Rattle.xc_least.proofs.RegionLemmas.{there, seen, decided_at}
use Rattle.xc_least.proofs.decided.Decided.step_of.Goals as goal

pub returns-then-len-place-clause-none : goal.returns-then-len-place-clause-none
returns-then-len-place-clause-none c = λ placed d h e.
    let at = decided_at c.args.self.now.place.items c.args.self.now.steps.items c.args.option d placed d h e in
    absurd (omega (arith, at.0))

pub returns-then-len-at-clause-none : goal.returns-then-len-at-clause-none
returns-then-len-at-clause-none c = λ placed d h e.
    let at = decided_at c.args.self.now.place.items c.args.self.now.steps.items c.args.option d placed d h e in
    let is = get_or_default c.args.self.now.place.items c.args.option 0 c.index-at.result.now at.0 in
    absurd (omega (arith, at.1, is, c.index-at.ensures))

pub returns-then-step-option-clause-some : goal.returns-then-step-option-clause-some
returns-then-step-option-clause-some c = (
  there c.args.self.now.steps.items c.index-at.result.now c.index-step.result.now (omega arith) c.index-step.ensures,
  c.if-step-option.true,
)

pub returns-else-step-option-clause-none : goal.returns-else-step-option-clause-none
returns-else-step-option-clause-none c = λ placed d h e.
    let at = seen c.args.self.now.place.items c.args.self.now.steps.items c.args.option c.index-at.result.now
    c.index-step.result.now c.index-at.ensures c.index-step.ensures placed d h e in
    c.if-step-option.false at.2
