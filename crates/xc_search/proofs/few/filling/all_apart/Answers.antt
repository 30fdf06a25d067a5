use Rattle.std.proofs.Common.{ap, sym, ◌∙◌, arith, ◌==◌, ◌||◌, ◌≡◌, take, get_or}
use Rattle.std.specs.Int.{bit_at}
use Rattle.xc_input.specs.declared.problem.Use.{Use}
use Rattle.xc_search.specs.inner.Filled.{shares_at}
use Rattle.xc_search.proofs.FillLemmas.{or_bit}
use Rattle.xc_search.proofs.ColourLemmas.{shares_more, plain_more}
use Rattle.xc_search.proofs.few.filling.all_apart.Goals as goal

pub loop-u-preserved : goal.loop-u-preserved
loop-u-preserved c = λ y.
    let hs = c.args.holders.now in
    let us = c.args.uses.now in
    let k = c.loop-u.u-index in
    let d : Use = record { item = 0; colour = 0 } in
    let none : (get_or us k d).colour ≡ 0 =
    omega (arith, c.requires.colours k d (omega arith), c.if-colours-eq0.true) in
    or_bit c.loop-u.apart (get_or hs (get_or us k d).item 0) y
    ∙ ap (λ t. t || (bit_at (get_or hs (get_or us k d).item 0) y == 1)) (c.loop-u.invariant y)
    ∙ sym (plain_more c.args.colours hs c.args.coloured.now us k y d (omega arith) none)

pub loop-u-2-preserved : goal.loop-u-2-preserved
loop-u-2-preserved c = λ y.
    let n = c.args.colours in
    let hs = c.args.holders.now in
    let cs = c.args.coloured.now in
    let us = c.args.uses.now in
    let before = shares_at n hs cs (take c.loop-u-2.u-index us) y in
    or_bit c.loop-u-2.apart c.differing-apart.result y
    ∙ ap (λ t. t || (bit_at c.differing-apart.result y == 1)) (c.loop-u-2.invariant y)
    ∙ ap (λ t. before || t) (c.differing-apart.ensures y)
    ∙ sym (shares_more n hs cs us c.loop-u-2.u-index y (record { item = 0; colour = 0 }) (omega arith))
