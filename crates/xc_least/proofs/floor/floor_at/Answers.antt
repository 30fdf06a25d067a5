use Rattle.std.proofs.Common.{arith, to_z, of_z, w64, ◌≡◌, List, ℕ, subst, ◌≤◌, ◌⊎◌}
use Rattle.std.specs.Prelude.{sum_by, ℤ, ◌≤ℤ◌}
use Rattle.std.proofs.lemmas.Int.{ints}
use Rattle.xc_least.specs.Least.{total_cost}
use Rattle.xc_least.specs.inner.Regions.{surplus_at}
use Rattle.xc_least.proofs.FloorLemmas.{all_cost}
use Rattle.xc_least.proofs.floor.floor_at.Goals as goal

pub returns : goal.returns
returns c = λ e s cover.
    let p = c.args.problem.now.puzzle in
    let costs = c.args.costs.now in
    let limit = to_z w64 (of_z w64 c.args.limit) in
    let same : limit ≡ c.args.limit = omega (arith, ints) in
    let found = subst (λ (fs : List ℕ). (c.in-Some-gap_of.gap ≤ sum_by (surplus_at fs) s)
    ⊎ (limit ≤ℤ total_cost costs s))
    c.as_slice-surplus.ensures.value (c.in_ok-floor.ensures e s cover) in
    let all = all_cost p costs c.args.prices.now c.args.bounds.now c.items-items.result
    c.in_ok-surpluses.surpluses.over.items c.in-Some.asked c.in-Some-allowed.allowed
    c.in_ok-surpluses.surpluses.under c.in-Some-gap_of.gap limit
    c.requires c.items-items.ensures.value c.in-Some.ensures
    c.in-Some-allowed.ensures c.in_ok-surpluses.ensures.under c.in_ok-surpluses.ensures.over c.in-Some-gap_of.ensures
    s cover found in
    subst (λ (z : ℤ). z ≤ℤ total_cost costs s) same all
