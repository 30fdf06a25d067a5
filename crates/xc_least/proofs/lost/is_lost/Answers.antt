use Rattle.std.proofs.Common.{arith, not, ◌≡◌, false, true, Bool, refl}
use Rattle.xc_least.specs.inner.Regions.{newest, surplus_at}
use Rattle.xc_least.proofs.RegionLemmas.{seen_out, seen_dear, seen_barred}
use Rattle.xc_least.proofs.lost.is_lost.Goals as goal

not_true : (b : Bool) → not b ≡ true → b ≡ false
not_true true e = cc
not_true false e = refl

pub returns-in-Some : goal.returns-in-Some
returns-in-Some c = λ e.
    seen_out c.args.problem.now.puzzle (surplus_at c.args.surplus.now) c.args.gap
    (newest c.args.decided.now.steps.items) c.args.option c.in-Some.step c.in-Some.ensures.some
    (not_true c.in-Some.step.taken e)

pub returns : goal.returns
returns c = λ e.
    seen_barred c.args.problem.now.puzzle (surplus_at c.args.surplus.now) c.args.gap
    (newest c.args.decided.now.steps.items) c.args.option (c.in_default.ensures.none c.requires.kept.placed)
    (c.is_barred.ensures e)

pub returns-then-saturating_sub-surplus_of : goal.returns-then-saturating_sub-surplus_of
returns-then-saturating_sub-surplus_of c = λ e.
    let f = surplus_at c.args.surplus.now in
    seen_dear c.args.problem.now.puzzle f c.args.gap c.args.decided.now.place.items c.args.decided.now.held.items
    c.args.decided.now.steps.items c.args.option c.spent.result c.requires.kept
    (c.in_default.ensures.none c.requires.kept.placed) (c.spent.ensures f c.requires.kept.spent)
    (omega (arith, c.if-saturating_sub-surplus_of.true, c.surplus_of.ensures, c.saturating_sub.ensures))
