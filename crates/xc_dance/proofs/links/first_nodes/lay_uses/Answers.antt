use Rattle.std.proofs.Common.{arith, ◌≡◌, ◌∙◌, ◌+◌, ap, refl, get_or, ℕ, Some}
use Rattle.std.proofs.lemmas.Option.{slice_get-get_or}
use Rattle.xc_input.specs.declared.problem.Use.{Use}
use Rattle.xc_moves.specs.Places.{used, spacer_place, layout}
use Rattle.xc_dance.specs.inner.Tables.{laid_to}
use Rattle.xc_moves.proofs.PlaceLemmas.{uses_here, use_here, option_fits}
use Rattle.xc_dance.proofs.WholeTables.{laid_room, laid_more}
use Rattle.xc_dance.proofs.links.first_nodes.lay_uses.Goals as goal
use Rattle.xc_dance.proofs.links.first_nodes.lay_uses.Goals.{In-loop-u}
use Rattle.std.specs.Prelude.{slice_get}

-- the next use, and its place
abbrev use_now : (c : In-loop-u) → Use
use_now c = get_or c.option-u-items.result.now c.loop-u.u-index (record { item = 0; colour = 0 })

abbrev place_now : (c : In-loop-u) → ℕ
place_now c = spacer_place c.args.problem.now.puzzle c.args.o + 1 + c.loop-u.u-index

-- its node stands there
node : (c : In-loop-u) → slice_get (layout c.args.problem.now.puzzle) (place_now c)
    ≡ Some (used (c.args.o + 1) (use_now c))
node c = grind (arith, option_fits, uses_here, use_here, slice_get-get_or)

pub lay-requires : goal.lay-requires
lay-requires c = rw c.loop-u.invariant (laid_room _ _ (node (goal.at.lay-requires c).In-loop-u))

pub loop-u-preserved : goal.loop-u-preserved
loop-u-preserved c =
    let here = (goal.at.loop-u-preserved c).In-loop-u in
    let p = c.args.problem.now.puzzle in
    let next : place_now here + 1 ≡ spacer_place p c.args.o + 1 + (c.loop-u.u-index + 1) = omega arith in
    laid_more _ _ c.lay.ensures c.loop-u.invariant (node here) refl ∙ ap (laid_to p) next

pub returns : goal.returns
returns c = grind (arith, uses_here, option_fits)
