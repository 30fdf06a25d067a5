use Rattle.std.proofs.Common.{Bool, false, subst}
use Rattle.std.proofs.lemmas.Result.{IfOk-weaker}
use Rattle.refutation.specs.inner.Steps.{Assumes, LeadTo, Shown}
use Rattle.refutation.proofs.ClauseLemmas.{shown_by}
use Rattle.refutation.proofs.derivation.is_shown.Goals as goal

pub returns : goal.returns
returns c =
    let a : Assumes c.args.clause.now c.args.trail.now false c.assume.new.trail =
    subst (λ (b : Bool). Assumes c.args.clause.now c.args.trail.now b c.assume.new.trail) c.if-branch.false
    c.in_ok-assume.ensures in
    IfOk-weaker c.propagate.result
    (λ b. LeadTo c.args.clauses.now c.assume.new.trail b c.propagate.new.trail)
    (λ b. Shown c.args.clauses.now c.args.clause.now c.args.trail.now b c.propagate.new.trail)
    (λ b l. shown_by c.args.clauses.now c.args.clause.now c.args.trail.now c.assume.new.trail b c.propagate.new.trail a
    l)
    c.propagate.ensures
