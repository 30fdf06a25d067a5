use Rattle.std.proofs.Common.{arith, get_or, refl, sym, true}
use Rattle.xc_least.specs.inner.Regions.{surplus_at}
use Rattle.xc_least.specs.declared.steps.Step.{Step}
use Rattle.xc_least.proofs.RegionLemmas.{kept_taken, of_none}
use Rattle.xc_least.proofs.HeldLemmas.{held_more}
use Rattle.xc_least.proofs.decided.Decided.take.Goals as goal

pub returns-clause-kept : goal.returns-clause-kept
returns-clause-kept c =
    let p = c.args.problem.now.puzzle in
    let f = surplus_at c.args.surplus.now in
    let d : Step = record { option = c.args.option; taken = true; spent = c.saturating_add-spent.result } in
    kept_taken p f c.args.self.now.place.items c.args.self.now.held.items c.hold.new.held.items
    c.args.self.now.steps.items d c.push.new.self.items c.len-2.result c.in_ok-push.ensures.items refl (omega arith)
    (omega arith)
    (of_none c.step_of.result (sym c.if-is_some.ensures) c.step_of.ensures.none c.requires.placed)
    (omega (arith, c.spent.ensures f c.requires.spent))
    (λ i. held_more p c.uses_at-uses.ensures.valid c.args.option i c.uses_at-uses.result.now
    c.uses_at-uses.ensures.value (get_or c.hold.new.held.items i 0) (get_or c.args.self.now.held.items i 0)
    (c.hold.ensures i))
    c.requires
