-- The first two loops clear the word of each colour that an option gives an item; the last two set the bits. The
-- invariants `loop-x` and `loop-u-2` say which options each such word has: those before x that give the item the
-- colour, and x itself if one of its uses so far does. A use with a colour adds one (`given_on`), and one without
-- changes nothing (`gives_none`). `room` says that the place of a colour is within the words, for the bounds.
use Rattle.std.proofs.Common.{◌≢◌, ◌<◌, ◌==◌, ◌||◌, ◌&&◌, length, get_or, set, ◌∙◌, ap, sym, arith, nat_lt}
use Rattle.std.specs.Int.{bit_at}
use Rattle.std.proofs.lemmas.List.Elements.{All-get_or}
use Rattle.xc_input.specs.Named.{IsKnownUse}
use Rattle.xc_input.specs.Problem.{uses_of}
use Rattle.xc_input.specs.declared.problem.Use.{Use}
use Rattle.xc_search.specs.inner.Filled.{gives, colour_place}
use Rattle.xc_search.proofs.FillLemmas.{with_bit}
use Rattle.xc_search.proofs.ColourLemmas.{room_for_use, gives_none, given_on}
use Rattle.xc_search.proofs.few.filling.note_colours.Goals as goal
use Rattle.xc_search.proofs.few.filling.note_colours.Goals.{At-loop-u-2, then-u-ne0-2, else-u-ne0-2}

pub bounds-coloured-place_by_colour : goal.bounds-coloured-place_by_colour
bounds-coloured-place_by_colour c =
    let d : Use = record { item = 0; colour = 0 } in
    let low = room_for_use c.args.problem.now (length c.args.coloured.now) c.colours-colours.result
    c.option-u-items.result.now c.loop-u.u-index d c.requires.room c.option-u-items.ensures.known
    c.colours-colours.ensures.value (omega arith) (λ e. c.if-u-ne0.true e) in
    omega (arith, low, c.place_by_colour.ensures, c.loop-u.auto.coloured, c.loop-o.auto.coloured)

-- the word of a use with a colour is there
room : (c : At-loop-u-2) → c.loop-u-2.u-index < length c.option-u-items-in-loop-x.result.now
    → (get_or c.option-u-items-in-loop-x.result.now c.loop-u-2.u-index (record { item = 0; colour = 0 })).colour ≢ 0
    → colour_place c.colours-colours.result
    (get_or c.option-u-items-in-loop-x.result.now c.loop-u-2.u-index (record { item = 0; colour = 0 })).item
    (get_or c.option-u-items-in-loop-x.result.now c.loop-u-2.u-index (record { item = 0; colour = 0 })).colour
    < length c.loop-u-2.coloured
room c within some =
    let low = room_for_use c.args.problem.now (length c.args.coloured.now) c.colours-colours.result
    c.option-u-items-in-loop-x.result.now c.loop-u-2.u-index (record { item = 0; colour = 0 }) c.requires.room
    c.option-u-items-in-loop-x.ensures.known c.colours-colours.ensures.value within some in
    omega (arith, low, c.loop-u-2.auto.coloured, c.loop-x.auto.coloured, c.loop-o.auto.coloured)

pub bounds-coloured-place_by_colour-then-u-ne0-2 : goal.bounds-coloured-place_by_colour-then-u-ne0-2
bounds-coloured-place_by_colour-then-u-ne0-2 c = omega (
  arith,
  c.place_by_colour-then-u-ne0-2.ensures,
  room (goal.at.bounds-coloured-place_by_colour-then-u-ne0-2 c).At-loop-u-2 (omega arith) c.if-u-ne0-2.true,
)

pub bounds-coloured-place_by_colour-then-u-ne0-2-2 : goal.bounds-coloured-place_by_colour-then-u-ne0-2-2
bounds-coloured-place_by_colour-then-u-ne0-2-2 c = omega (
  arith,
  c.place_by_colour-then-u-ne0-2.ensures,
  room (goal.at.bounds-coloured-place_by_colour-then-u-ne0-2-2 c).At-loop-u-2 (omega arith) c.if-u-ne0-2.true,
)

pub loop-u-2-preserved : goal.loop-u-2-preserved
loop-u-2-preserved c = λ z j k some most e y.
    let d : Use = record { item = 0; colour = 0 } in
    let us = c.option-u-items-in-loop-x.result.now in
    let n = c.colours-colours.result in
    let hs = c.loop-u-2.coloured in
    let known : IsKnownUse c.args.problem.now (get_or us c.loop-u-2.u-index d) =
    All-get_or (IsKnownUse c.args.problem.now) us c.loop-u-2.u-index d (omega arith)
    c.option-u-items-in-loop-x.ensures.known in
    let h = nat_lt y c.loop-x.x && gives (uses_of c.args.problem.now.puzzle (get_or c.args.options.now y 0)) j k in
    let before = c.loop-u-2.invariant z j k some most e y in
    elim c.if-u-ne0-2.branch [
      | then-u-ne0-2 w ↦
          ap (λ v. bit_at (get_or v (colour_place n j k) 0) y == 1) w.coloured-is
          ∙ ap (λ i. bit_at (get_or (set hs i (with_bit (get_or hs i 0) c.loop-x.x)) (colour_place n j k) 0) y == 1)
          w.place_by_colour-then-u-ne0-2.ensures
          ∙ given_on n hs us c.loop-x.x c.loop-u-2.u-index j k y d h (omega (arith, c.requires.few_options))
          (omega arith)
          (room (goal.at.loop-u-2-preserved c).At-loop-u-2 (omega arith) w.if-u-ne0-2.true)
          (omega (arith, known.1, c.colours-colours.ensures.value)) most before
      | else-u-ne0-2 w ↦ ap (λ v. bit_at (get_or v (colour_place n j k) 0) y == 1) w.coloured-is ∙ before
          ∙ ap (λ t. h || ((y == c.loop-x.x) && t))
          (sym (gives_none us c.loop-u-2.u-index j k d (omega arith) (omega (arith, w.if-u-ne0-2.false)) some))
    ]
