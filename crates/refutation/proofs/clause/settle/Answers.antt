use Rattle.std.proofs.Common.{List, ℕ, false, refl, sym, subst}
use Rattle.refutation.specs.inner.Steps.{Leads}
use Rattle.refutation.proofs.ClauseLemmas.{leads_conflict, leads_last}
use Rattle.refutation.proofs.clause.settle.Goals as goal

pub returns-then-is_false : goal.returns-then-is_false
returns-then-is_false c = leads_conflict c.args.trail.now c.args.clause.now c.args.other c.requires
    (c.if-is_false.ensures refl) c.in-None.ensures

pub returns-in_ok-push-in-None : goal.returns-in_ok-push-in-None
returns-in_ok-push-in-None c =
    subst (λ (t : List ℕ). Leads c.args.clause.now c.args.trail.now false t) (sym c.in_ok-push-in-None.ensures)
    (leads_last c.args.trail.now c.args.clause.now c.args.other c.requires c.in-None.ensures)
