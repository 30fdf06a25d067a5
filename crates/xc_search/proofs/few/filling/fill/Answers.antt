-- One invariant for each loop, a fact for each array of words, of the places before x or i: `apart` and `alone` from
-- the first loop, `holders` and `alone` from the second. A step writes one place of each, and `written` says that it
-- holds there what was written and elsewhere what was there. What is written is right by `share_told` (options apart)
-- and by `noted_more` (the items of an option). `returns` reads the facts at the ends of both loops, by the items and
-- options themselves in place of their numbers (`get_or_from_slice_get`).
use Rattle.std.proofs.Common.{◌≡◌, length-set, get_or, ◌∙◌, ap, refl, arith, ◌==◌, ◌&&◌, ◌||◌, is_some}
use Rattle.std.proofs.lemmas.List.Elements.{All-get_or}
use Rattle.std.specs.Int.{bit_at}
use Rattle.std.proofs.lemmas.Bool.{lt-ltb}
use Rattle.std.proofs.lemmas.Option.{slice_get_within, get_or_from_slice_get}
use Rattle.xc_input.specs.Problem.{uses_of, colour_in}
use Rattle.xc_search.specs.inner.Few.{share}
use Rattle.xc_search.specs.inner.Filled.{held_at, TellsHolders, shares_at}
use Rattle.xc_search.proofs.FillLemmas.{noted_more, written}
use Rattle.xc_search.proofs.ColourLemmas.{share_told, known_colours, uses_known, uses_room, room_kept}
use Rattle.xc_search.proofs.few.filling.fill.Goals as goal

pub loop-x-preserved : goal.loop-x-preserved
loop-x-preserved c =
    let os = c.args.options.now in
    let p = c.args.problem.now.puzzle in
    let ws = c.loop-x.words in
    let us = c.option.result.now in
    let hs = c.note_holders.new.holders in
    let cs = c.note_colours.new.coloured in
    record {
      sizes = (
        c.loop-x.invariant.sizes.0,
        omega (arith, length-set ws.alone c.loop-x.x 0, c.loop-x.invariant.sizes.1),
        omega (arith, length-set ws.apart c.loop-x.x c.all_apart.result, c.loop-x.invariant.sizes.2),
      );
      apart = λ k y h. written ws.apart c.loop-x.x c.all_apart.result
          (λ z v. (bit_at v y == 1) ≡ share (uses_of p (get_or os z 0)) (uses_of p (get_or os y 0)))
          (omega (arith, c.loop-x.invariant.sizes.2, c.requires.few_options, c.loop-x-test.true))
          (c.all_apart.ensures y ∙ ap (λ n. shares_at n hs cs us y) c.colours-colours.ensures.value
          ∙ share_told p _ os hs cs us c.loop-x.x y c.colours-colours.ensures.whole.valid c.option.ensures.value
          (known_colours c.args.problem.now us c.option.ensures.known) c.note_holders.ensures.held
          c.note_colours.ensures) (λ z l. c.loop-x.invariant.apart z y l) k h;
      alone = written ws.alone c.loop-x.x 0 (λ z v. v ≡ 0)
          (omega (arith, c.loop-x.invariant.sizes.1, c.requires.few_options, c.loop-x-test.true)) refl
          c.loop-x.invariant.alone;
    }

pub all_apart-requires-clause-colours : goal.all_apart-requires-clause-colours
all_apart-requires-clause-colours c =
    uses_known c.args.problem.now _ _ c.option.ensures.known c.colours-colours.ensures.value

pub all_apart-requires-clause-room : goal.all_apart-requires-clause-room
all_apart-requires-clause-room c =
    uses_room c.args.problem.now _ _ _
    (room_kept c.args.problem.now _ _ c.note_colours.auto.coloured c.requires.colour_room) c.option.ensures.known
    c.colours-colours.ensures.value

pub loop-i-preserved : goal.loop-i-preserved
loop-i-preserved c =
    let os = c.args.options.now in
    let is = c.args.items.now in
    let p = c.args.problem.now.puzzle in
    let ws = c.loop-i.words.holders in
    let i = c.loop-i.i in
    let hs = c.note_holders.new.holders in
    let w = get_or hs (get_or is i 0) 0 in
    let told : TellsHolders p os (get_or is i 0) w =
    All-get_or (λ j. TellsHolders p os j (get_or hs j 0)) is i 0 c.loop-i-test.true c.note_holders.ensures.items in
    record {
      sizes = (length-set ws i w ∙ c.loop-i.invariant.sizes.0, c.note_in_each.ensures.size);
      apart = c.loop-i.invariant.apart;
      holders = λ k y h. written ws i w (λ z v. (bit_at v y == 1) ≡ held_at p os (get_or is z 0) y)
          (omega (arith, c.loop-i.invariant.sizes.0, c.requires.few_items, c.loop-i-test.true)) (told y)
          (λ z l. c.loop-i.invariant.holders z y l) k h;
      alone = λ k y below. c.note_in_each.ensures.noted y k (omega (arith, below, c.requires.few_options))
          ∙ ap (λ t. t || ((k == i) && (bit_at w y == 1))) (c.loop-i.invariant.alone k y below)
          ∙ noted_more k i (bit_at w y == 1) (λ z. held_at p os (get_or is z 0) y) (told y);
    }

pub returns : goal.returns
returns c =
    let os = c.args.options.now in
    let is = c.args.items.now in
    let p = c.args.problem.now.puzzle in
    record {
      few_items = c.requires.few_items;
      few_options = c.requires.few_options;
      alone_fits = c.know_words.ensures;
      apart_fits = c.know_words-2.ensures;
      holders = λ i x j o hi hx.
          let li = slice_get_within is i j hi in
          c.loop-i.invariant.holders i x (omega (arith, li, c.loop-i-test.false))
          ∙ ap (λ z. held_at p os z x) (get_or_from_slice_get is i j 0 hi)
          ∙ ap (λ z. is_some (colour_in (uses_of p z) j)) (get_or_from_slice_get os x o 0 hx);
      alone = λ i x j o hi hx.
          let li = slice_get_within is i j hi in
          c.loop-i.invariant.alone i x (slice_get_within os x o hx)
          ∙ ap (λ t. t && held_at p os (get_or is i 0) x) (lt-ltb i c.loop-i.i (omega (arith, li, c.loop-i-test.false)))
          ∙ ap (λ z. held_at p os z x) (get_or_from_slice_get is i j 0 hi)
          ∙ ap (λ z. is_some (colour_in (uses_of p z) j)) (get_or_from_slice_get os x o 0 hx);
      apart = λ x y o q hx hy.
          let lx = slice_get_within os x o hx in
          ap (λ ws. bit_at (get_or ws x 0) y == 1) c.loop-i.invariant.apart
          ∙ c.loop-x.invariant.apart x y (omega (arith, lx, c.loop-x-test.false))
          ∙ ap (λ z. share (uses_of p z) (uses_of p (get_or os y 0))) (get_or_from_slice_get os x o 0 hx)
          ∙ ap (λ z. share (uses_of p o) (uses_of p z)) (get_or_from_slice_get os y q 0 hy);
    }
