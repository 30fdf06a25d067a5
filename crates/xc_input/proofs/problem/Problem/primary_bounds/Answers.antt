use Rattle.std.proofs.Common.{arith, ◌∙◌, ap, sym, refl, Some}
use Rattle.std.proofs.lemmas.Option.{slice_get_within, get_or_from_slice_get}
use Rattle.std.proofs.lemmas.List.{take_more}
use Rattle.xc_input.proofs.TokenLemmas.{numbered_get-at}
use Rattle.xc_input.proofs.problem.Problem.primary_bounds.Goals as goal

pub loop-i-preserved : goal.loop-i-preserved
loop-i-preserved c =
    let all = c.args.self.now.puzzle.bounds in
    let is = c.item.ensures.bounds (omega (arith, c.loop-i-test.true, c.primary-i-end.ensures.value)) in
    let x = c.bounds.result in
    let here = sym (numbered_get-at all _ c.loop-i.i refl) ∙ is ∙ ap Some (sym c.bounds.ensures) in
    cc (
      c.in_ok-push.ensures.items,
      c.loop-i.invariant,
      take_more all c.loop-i.i x (slice_get_within all c.loop-i.i x here),
      get_or_from_slice_get all c.loop-i.i x x here,
    )
