use Rattle.std.proofs.Common.{length-take-le}
use Rattle.std.proofs.lemmas.List.{length-map, get_or-take}
use Rattle.std.proofs.Common.{arith, ◌≡◌, ◌-◌, sym, subst, length}
use Rattle.xc_input.specs.Problem.{item_count, primary_count}
use Rattle.xc_input.specs.inner.Stored.{IsOptional}
use Rattle.xc_input.proofs.TokenLemmas.{numbered-map, behind-at}
use Rattle.xc_input.proofs.problem.Problem.item.Goals.{After-index}
use Rattle.xc_input.proofs.problem.Problem.item.Goals as goal

-- how many items there are, and how many primary ones
counts : (c : After-index) → (item_count c.args.self.now.puzzle ≡ length c.self.inside.items.items)
    × (primary_count c.args.self.now.puzzle ≡ c.self.inside.primary)
counts c = grind (arith, length-take-le, length-map)

pub returns-clause-name : goal.returns-clause-name
returns-clause-name c = grind (arith, counts, numbered-map)

pub returns-clause-bounds : goal.returns-clause-bounds
returns-clause-bounds c = grind (arith, counts, numbered-map, length-take-le, get_or-take)

pub returns-clause-secondary : goal.returns-clause-secondary
returns-clause-secondary c = λ secondary.
    let n = counts (goal.at.returns-clause-secondary c).After-index in
    subst IsOptional (sym c.index.ensures)
    (behind-at IsOptional c.self.inside.primary c.self.inside.items.items (c.args.i - 1) c.index.result.now
    c.self.invariant.secondary (omega (arith, n.1, secondary.0)) (omega (arith, n.0, c.requires.0, c.requires.1)))
