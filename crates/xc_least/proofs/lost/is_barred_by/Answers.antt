use Rattle.std.proofs.Common.{ap, ◌∙◌, sym, ◌≤◌, get_or, arith, subst, List, ℕ}
use Rattle.xc_input.specs.Problem.{colour_in, numbered_get}
use Rattle.std.specs.Prelude.{is_some}
use Rattle.xc_least.specs.inner.Regions.{newest}
use Rattle.xc_least.proofs.RegionLemmas.{barred_full}
use Rattle.xc_least.proofs.lost.is_barred_by.Goals as goal

pub returns-then-item-bounds : goal.returns-then-item-bounds
returns-then-item-bounds c = λ e o uses.
    let p = c.args.problem.now.puzzle in
    let ds = newest c.args.decided.now.steps.items in
    let full = c.is_full.ensures e in
    let many : full.0.high ≤ get_or c.args.decided.now.held.items c.args.item 0 =
    subst (λ (hs : List ℕ). full.0.high ≤ get_or hs c.args.item 0) c.as_slice.ensures.value full.2 in
    barred_full p ds o c.args.item c.args.decided.now.place.items full.0 c.requires.kept
    (ap (λ bs. numbered_get bs c.args.item) (sym c.requires.bounds) ∙ full.1)
    (ap (λ us. is_some (colour_in us c.args.item)) (sym uses) ∙ c.requires.item)
    (omega (arith, many, c.requires.held c.args.item))
