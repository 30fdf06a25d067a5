use Rattle.std.proofs.Common.{◌==◌, ◌&&◌, ◌||◌, ap, sym, ◌∙◌, not, arith}
use Rattle.std.proofs.lemmas.Bool.{ne_eqb}
use Rattle.std.specs.Int.{bit_at}
use Rattle.std.specs.Prelude.{slice_index}
use Rattle.xc_search.specs.inner.Filled.{colour_place}
use Rattle.xc_search.proofs.ColourLemmas.{and_not}
use Rattle.xc_search.proofs.few.filling.differing.Goals as goal

pub returns : goal.returns
returns c = λ y.
    let cs = c.args.coloured.now in
    let of = slice_index c.args.holders.now c.args.u.item in
    and_not of (slice_index cs c.place_by_colour.result) y (omega arith) (omega arith)
    ∙ ap (λ z. (bit_at of y == 1) && not (bit_at (slice_index cs z) y == 1)) c.place_by_colour.ensures
    ∙ ap (λ t. (bit_at of y == 1) && (t || not (bit_at (slice_index cs
    (colour_place c.args.colours c.args.u.item c.args.u.colour)) y == 1)))
    (sym (ne_eqb c.args.u.colour 0 (λ e. omega (arith, e, c.if-u-eq0.false))))
