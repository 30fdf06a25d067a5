use Rattle.std.proofs.Common.{arith, ◌∙◌, ap, replicate, [], length, take, ◌+◌, refl, ◌<◌}
use Rattle.std.proofs.lemmas.List.{length-map, take_more, length-take-le}
use Rattle.std.proofs.lemmas.List.FromFn.{length-map-range_with_len}
use Rattle.std.proofs.lemmas.Option.{unwrap_or-slice_get}
use Rattle.xc_input.proofs.TokenLemmas.{numbered_get-at}
use Rattle.xc_dance.proofs.LosingLists.{lists_none, lists_more}
use Rattle.std.specs.Prelude.{unwrap_or}
use Rattle.xc_dance.proofs.lists.build.first_lists.Goals as goal

pub loop-o-init : goal.loop-o-init
loop-o-init c = c.in_ok-lists.ensures ∙ ap (λ n. replicate n []) c.items.ensures.count ∙ lists_none c.args.table.now

pub enlist-requires-clause-items : goal.enlist-requires-clause-items
enlist-requires-clause-items c = λ k d lt.
    let sound = c.uses.ensures.sound.sound k d lt in
    let size = ap length c.loop-o.invariant in
    grind (arith, length-map-range_with_len, length-map)

pub loop-o-preserved : goal.loop-o-preserved
loop-o-preserved c =
    let p = c.args.table.now in
    let o = c.loop-o.o in
    let lt : o < length p.options = omega (arith, c.loop-o-test.true, c.options-o-end.ensures) in
    let us = ap (λ l. unwrap_or l []) (numbered_get-at p.options (o + 1) o refl) ∙ unwrap_or-slice_get p.options o [] in
    let add = lists_more p (take o p.options) c.uses.result.now (o + 1) (grind (arith, length-take-le)) in
    grind (arith, add, us, take_more p.options o [] lt, c.uses.ensures.value)
