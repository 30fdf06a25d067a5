use Rattle.std.proofs.Common.{arith, ◌-◌, length-set, length, refl, ◌∙◌}
use Rattle.std.proofs.lemmas.Option.{slice_get_read}
use Rattle.xc_input.specs.declared.problem.Use.{Use}
use Rattle.xc_text.proofs.ListLemmas.{each_two_from_AllPairs}
use Rattle.xc_count.proofs.HolderLemmas.{list_step}
use Rattle.xc_count.proofs.holders.list_option.Goals as goal

pub loop-place-preserved : goal.loop-place-preserved
loop-place-preserved c =
    let n = c.loop-place.place - 1 in
    let d : Use = record { item = 0; colour = 0 } in
    let known = c.requires.items n d (omega arith) in
    record {
      lists = list_step (λ z. z.items) c.args.lists.now.items c.loop-place.lists.items c.args.uses.now
          c.loop-place.place n
          c.args.option d c.push_option.new.list c.index_mut.result.now
          (each_two_from_AllPairs _ _ c.requires.distinct) (omega arith) (omega arith) known.0
          (slice_get_read c.loop-place.lists.items (length c.loop-place.lists.items) _ c.index_mut.result.now refl
          (omega (arith, known.0, known.1, c.loop-place.invariant.len)) c.index_mut.ensures.value)
          c.in_ok-push_option.ensures c.loop-place.invariant.lists;
      len = length-set _ _ _ ∙ c.loop-place.invariant.len;
      within = omega arith;
    }
