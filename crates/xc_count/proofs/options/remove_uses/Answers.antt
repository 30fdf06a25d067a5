use Rattle.std.proofs.Common.{arith, refl, ◌≡◌, ◌<◌, ◌∙◌, get_or, length, length-set}
use Rattle.std.proofs.lemmas.List.{get_or_default}
use Rattle.xc_input.specs.declared.problem.Use.{Use}
use Rattle.xc_text.proofs.ListLemmas.{each_two_from_AllPairs}
use Rattle.xc_count.proofs.Orders.{held_by, less_left}
use Rattle.xc_count.proofs.PlanLemmas.{use_there}
use Rattle.xc_count.proofs.options.remove_uses.Goals as goal

pub loop-u-preserved : goal.loop-u-preserved
loop-u-preserved c =
    let d : Use = record { item = 0; colour = 0 } in
    let us = c.args.uses.now in
    let k = c.loop-u.u-index in
    let left = c.loop-u.left.items in
    let item = (get_or us k d).item in
    let known = c.requires.uses k d (omega arith) in
    let within : item < length left = omega (arith, known, c.loop-u.invariant.len) in
    let there = use_there us k d (omega arith) in
    let holds : held_by us item ≡ 1 = rw there refl in
    let read = c.index.ensures ∙ get_or_default left item c.index.result.now 0 within in
    record {
      less = less_left us k d left (λ i. get_or c.args.left.now.items i 0) c.saturating_sub.result
          (each_two_from_AllPairs _ _ c.requires.distinct) (omega arith) holds within
          (omega (arith, read, c.saturating_sub.ensures)) c.loop-u.invariant.less;
      len = length-set _ _ _ ∙ c.loop-u.invariant.len;
    }
