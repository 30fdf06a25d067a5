use Rattle.std.proofs.Common.{◌-◌, length, refl, sym, subst, get_or, take, arith, List, ◌<◌}
use Rattle.std.proofs.Math.ListN.{set}
use Rattle.std.proofs.lemmas.List.{take_more}
use Rattle.std.proofs.lemmas.Option.{slice_get_read}
use Rattle.xc_input.specs.declared.problem.Use.{Use}
use Rattle.xc_none.proofs.HolderLemmas.{AreListedWith, with_more, holder_at}
use Rattle.xc_none.proofs.holders.list_option.Goals as goal

pub loop-u-preserved : goal.loop-u-preserved
loop-u-preserved c =
    let p = c.args.problem.now.puzzle in
    let us : List Use = c.option-u-items.result.now in
    let k = c.loop-u.u-index in
    let d : Use = record { item = 0; colour = 0 } in
    let here : k < length us = omega arith in
    let known = c.option-u-items.ensures.known k d here in
    let lists = c.loop-u.lists.items in
    let place = (get_or us k d).item - 1 in
    let within : place < length lists = omega arith in
    subst (λ (vs : List Use). AreListedWith p c.args.option vs (set lists place c.push_option.new.list))
    (sym (take_more us k d here))
    (with_more p c.args.option place (take k us) (get_or us k d) lists c.index_mut.result.now c.push_option.new.list
    (holder_at p c.args.option k us d c.requires.option c.option-u-items.ensures.value here) known.0.0 refl
    (slice_get_read lists (length lists) place c.index_mut.result.now refl within c.index_mut.ensures.value)
    c.in_ok-push_option.ensures c.loop-u.invariant)
