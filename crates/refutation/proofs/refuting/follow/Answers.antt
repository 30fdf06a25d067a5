use Rattle.std.proofs.Common.{ℕ, List, subst}
use Rattle.refutation.specs.inner.Derivations.{Shows, TakesClause}
use Rattle.refutation.proofs.DerivationLemmas.{keeps_taken}
use Rattle.refutation.proofs.refuting.follow.Goals as goal

pub returns : goal.returns
returns c =
    let clause : List ℕ = c.args.clause.now in
    let s : Shows c.args.derivation.now clause = c.in_ok-shows.ensures.shown c.if-not-branch.false in
    let t : TakesClause c.shows.new.self clause c.take.new.self =
    subst (λ (xs : List ℕ). TakesClause c.shows.new.self xs c.take.new.self) c.in_ok-from_slice.ensures.items
    c.in_ok-take.ensures in
    keeps_taken c.args.derivation.now c.shows.new.self c.take.new.self clause c.in_ok-shows.ensures.kept s t
