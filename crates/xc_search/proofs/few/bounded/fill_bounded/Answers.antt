-- One invariant for each loop, a fact for each array of words, of the places before x or i: `apart` and `many` from the
-- first loop, `holders`, `low`, `high` and `many` from the second. A step writes one place of each, and `written` says
-- that it holds there what was written and elsewhere what was there. What is written is right by `clash_told` (options
-- apart) and by `noted_more` (the items of an option). `returns` reads the facts at the ends of both loops, by the
-- items and options themselves in place of their numbers (`get_or_from_slice_get`).
use Rattle.std.proofs.Common.{◌≡◌, ◌<◌, length-set, get_or, ◌∙◌, ap, refl, sym, arith, ◌==◌, ◌&&◌, ◌||◌, not, min}
use Rattle.std.proofs.Common.{is_some}
use Rattle.std.proofs.lemmas.List.Elements.{All-get_or}
use Rattle.std.specs.Int.{bit_at}
use Rattle.std.proofs.lemmas.Bool.{lt-ltb, ltb-true, eq-eqb}
use Rattle.std.proofs.lemmas.Option.{slice_get_within, get_or_from_slice_get}
use Rattle.xc_input.specs.Problem.{uses_of, colour_in}
use Rattle.xc_text.proofs.ListLemmas.{and_left as left_of}
use Rattle.xc_moves.specs.Moves.{IsOpenPrimary}
use Rattle.xc_search.specs.inner.FewBounded.{low_left, high_left, clash, clashes_at}
use Rattle.xc_search.specs.inner.Filled.{held_at, TellsHolders}
use Rattle.xc_search.proofs.FillLemmas.{noted_more, written}
use Rattle.xc_search.proofs.ColourLemmas.{clash_told, known_colours, uses_room, room_kept}
use Rattle.xc_search.proofs.few.bounded.fill_bounded.Goals as goal

pub note_holders-requires-clause-items : goal.note_holders-requires-clause-items
note_holders-requires-clause-items g c = λ k d l.
    let opened = c.requires.items k d l in (opened.0.0, omega (arith, opened.0.1))

pub all_clashing-requires-clause-some : goal.all_clashing-requires-clause-some
all_clashing-requires-clause-some g c = λ k d l. (c.option.ensures.known k d l).0.0

pub all_clashing-requires-clause-items : goal.all_clashing-requires-clause-items
all_clashing-requires-clause-items g c = λ k d l.
    omega (arith, (c.option.ensures.known k d l).0.1, c.requires.room, c.note_holders.auto.holders)

pub all_clashing-requires-clause-room : goal.all_clashing-requires-clause-room
all_clashing-requires-clause-room g c =
    uses_room c.args.problem.now _ _ _
    (room_kept c.args.problem.now _ _ c.note_colours.auto.coloured c.requires.colour_room) c.option.ensures.known
    c.colours-colours.ensures.value

pub loop-x-preserved : goal.loop-x-preserved
loop-x-preserved g c =
    let os = c.args.options.now in
    let p = c.args.problem.now.puzzle in
    let t = (g.D.Dance.state c.args.dance.now).trail in
    let ws = c.loop-x.words in
    let us = c.option.result.now in
    let hs = c.note_holders.new.holders in
    let cs = c.note_colours.new.coloured in
    let sizes = c.loop-x.invariant.sizes in
    record {
      sizes = (
        sizes.0,
        omega (arith, length-set ws.many c.loop-x.x 0, sizes.1),
        omega (arith, length-set ws.apart c.loop-x.x c.all_clashing.result, sizes.2),
        sizes.3,
        sizes.4,
      );
      apart = λ k y h. written ws.apart c.loop-x.x c.all_clashing.result
          (λ z v. (bit_at v y == 1) ≡ clash p t (uses_of p (get_or os z 0)) (uses_of p (get_or os y 0)))
          (omega (arith, sizes.2, c.requires.few_options, c.loop-x-test.true))
          (c.all_clashing.ensures y ∙ ap (λ n. clashes_at p t n hs cs us y) c.colours-colours.ensures.value
          ∙ clash_told p t _ os hs cs us c.loop-x.x y c.colours-colours.ensures.whole.valid c.option.ensures.value
          (known_colours c.args.problem.now us c.option.ensures.known) c.note_holders.ensures.held
          c.note_colours.ensures) (λ z l. c.loop-x.invariant.apart z y l) k h;
      many = written ws.many c.loop-x.x 0 (λ z v. v ≡ 0)
          (omega (arith, sizes.1, c.requires.few_options, c.loop-x-test.true)) refl c.loop-x.invariant.many;
    }

pub bounds_left-bounds-requires-clause-open : goal.bounds_left-bounds-requires-clause-open
bounds_left-bounds-requires-clause-open g c =
    All-get_or (IsOpenPrimary c.args.problem.now.puzzle (g.D.Dance.state c.args.dance.now).trail) c.args.items.now
    c.loop-i.i 0 c.loop-i-test.true c.requires.items

pub loop-i-preserved : goal.loop-i-preserved
loop-i-preserved g c =
    let os = c.args.options.now in
    let is = c.args.items.now in
    let p = c.args.problem.now.puzzle in
    let t = (g.D.Dance.state c.args.dance.now).trail in
    let ws = c.loop-i.words in
    let i = c.loop-i.i in
    let hs = c.note_holders.new.holders in
    let w = get_or hs (get_or is i 0) 0 in
    let low = c.up_to_most.result in
    let high = c.up_to_most-in-loop-i.result in
    let several = c.of_several.result in
    let sizes = c.loop-i.invariant.sizes in
    let told : TellsHolders p os (get_or is i 0) w =
    All-get_or (λ j. TellsHolders p os j (get_or hs j 0)) is i 0 c.loop-i-test.true c.note_holders.ensures.items in
    let here : i < 64 = omega (arith, c.requires.few_items, c.loop-i-test.true) in
    record {
      sizes = (
        length-set ws.holders i w ∙ sizes.0,
        c.note_in_each.ensures.size,
        length-set ws.low i low ∙ sizes.2,
        length-set ws.high i high ∙ sizes.3,
      );
      apart = c.loop-i.invariant.apart;
      low = written ws.low i low (λ z v. v ≡ min (low_left p t (get_or is z 0)) 64)
          (omega (arith, sizes.2, here))
          (c.up_to_most.ensures ∙ ap (λ n. min n 64) c.bounds_left-bounds.ensures.low) c.loop-i.invariant.low;
      high = written ws.high i high (λ z v. v ≡ min (high_left p t (get_or is z 0)) 64)
          (omega (arith, sizes.3, here))
          (c.up_to_most-in-loop-i.ensures ∙ ap (λ n. min n 64) c.bounds_left-bounds.ensures.high)
          c.loop-i.invariant.high;
      holders = λ k y h. written ws.holders i w (λ z v. (bit_at v y == 1) ≡ held_at p os (get_or is z 0) y)
          (omega (arith, sizes.0, here)) (told y) (λ z l. c.loop-i.invariant.holders z y l) k h;
      many = λ k y below. c.note_in_each.ensures.noted y k (omega (arith, below, c.requires.few_options))
          ∙ ap (λ b. b || ((k == i) && (bit_at several y == 1))) (c.loop-i.invariant.many k y below)
          ∙ noted_more k i (bit_at several y == 1)
          (λ z. held_at p os (get_or is z 0) y && not (high_left p t (get_or is z 0) == 1))
          (c.of_several.ensures y ∙ ap (λ b. b && not (c.bounds_left-bounds.result.high == 1)) (told y)
          ∙ ap (λ n. held_at p os (get_or is i 0) y && not (n == 1)) c.bounds_left-bounds.ensures.high);
    }

pub returns : goal.returns
returns g c =
    let os = c.args.options.now in
    let is = c.args.items.now in
    let p = c.args.problem.now.puzzle in
    let t = (g.D.Dance.state c.args.dance.now).trail in
    let inv = c.loop-i.invariant in
    let end = c.loop-i-test.false in
    record {
      few_items = c.requires.few_items;
      few_options = c.requires.few_options;
      low = λ i j hi. inv.low i (omega (arith, slice_get_within is i j hi, end))
          ∙ ap (λ z. min (low_left p t z) 64) (get_or_from_slice_get is i j 0 hi);
      high = λ i j hi. inv.high i (omega (arith, slice_get_within is i j hi, end))
          ∙ ap (λ z. min (high_left p t z) 64) (get_or_from_slice_get is i j 0 hi);
      holders = λ i x j o hi hx. inv.holders i x (omega (arith, slice_get_within is i j hi, end))
          ∙ ap (λ z. held_at p os z x) (get_or_from_slice_get is i j 0 hi)
          ∙ ap (λ z. is_some (colour_in (uses_of p z) j)) (get_or_from_slice_get os x o 0 hx);
      many = λ i x j o hi hx.
          let li = slice_get_within is i j hi in
          inv.many i x (slice_get_within os x o hx)
          ∙ ap (λ b. b && (held_at p os (get_or is i 0) x && not (high_left p t (get_or is i 0) == 1)))
          (lt-ltb i c.loop-i.i (omega (arith, li, end)))
          ∙ ap (λ z. held_at p os z x && not (high_left p t z == 1)) (get_or_from_slice_get is i j 0 hi)
          ∙ ap (λ z. is_some (colour_in (uses_of p z) j) && not (high_left p t j == 1))
          (get_or_from_slice_get os x o 0 hx);
      many_known = λ i x o hx e.
          let noted = sym (inv.many i x (slice_get_within os x o hx)) ∙ eq-eqb _ 1 e in
          let below : i < c.loop-i.i = ltb-true i c.loop-i.i (left_of _ _ noted) in
          omega (arith, below);
      apart = λ x y o q hx hy.
          let lx = slice_get_within os x o hx in
          ap (λ ws. bit_at (get_or ws x 0) y == 1) inv.apart
          ∙ c.loop-x.invariant.apart x y (omega (arith, lx, c.loop-x-test.false))
          ∙ ap (λ z. clash p t (uses_of p z) (uses_of p (get_or os y 0))) (get_or_from_slice_get os x o 0 hx)
          ∙ ap (λ z. clash p t (uses_of p o) (uses_of p z)) (get_or_from_slice_get os y q 0 hy);
    }
