use Rattle.std.proofs.Common.{ap, sym, ◌∙◌, arith, ◌==◌, ◌||◌, ◌&&◌, take, get_or}
use Rattle.std.proofs.Math.Bool.{or-false}
use Rattle.std.specs.Int.{bit_at}
use Rattle.xc_input.specs.declared.problem.Use.{Use}
use Rattle.xc_search.specs.inner.FewBounded.{binds, clashes_at}
use Rattle.xc_search.specs.inner.Filled.{differs_at}
use Rattle.xc_search.proofs.FillLemmas.{or_bit}
use Rattle.xc_search.proofs.ColourLemmas.{clashes_more}
use Rattle.xc_search.proofs.few.bounded.all_clashing.Goals as goal
use Rattle.xc_search.proofs.few.bounded.all_clashing.Goals.{then-is_binding, else-is_binding}

pub loop-u-preserved : goal.loop-u-preserved
loop-u-preserved g c = λ y.
    let s = g.D.Dance.state c.args.dance.now in
    let p = c.args.problem.now.puzzle in
    let n = c.args.colours in
    let hs = c.args.holders.now in
    let cs = c.args.coloured.now in
    let us = c.args.uses.now in
    let k = c.loop-u.u-index in
    let d : Use = record { item = 0; colour = 0 } in
    let u = get_or us k d in
    let before = clashes_at p s.trail n hs cs (take k us) y in
    let more = sym (clashes_more p s.trail n hs cs us k y d (omega arith)) in
    let is = c.is_binding.ensures ∙ ap (λ q. binds q s.trail u) c.requires.same in
    elim c.if-is_binding.branch [
      | then-is_binding w ↦ ap (λ v. bit_at v y == 1) w.apart-is ∙ or_bit c.loop-u.apart w.differing-apart.result y
          ∙ ap (λ b. b || (bit_at w.differing-apart.result y == 1)) (c.loop-u.invariant y)
          ∙ ap (λ b. before || b) (w.differing-apart.ensures y)
          ∙ ap (λ b. before || (b && differs_at n hs cs u y)) (sym w.if-is_binding.true ∙ is) ∙ more
      | else-is_binding w ↦ ap (λ v. bit_at v y == 1) w.apart-is ∙ c.loop-u.invariant y ∙ sym (or-false before)
          ∙ ap (λ b. before || (b && differs_at n hs cs u y)) (sym w.if-is_binding.false ∙ is) ∙ more
    ]
