use Rattle.std.proofs.Common.{◌<◌, length, get_or, ◌∙◌, arith, inl}
use Rattle.std.proofs.lemmas.List.{get_or_default}
use Rattle.std.proofs.lemmas.List.Elements.{All-get_or}
use Rattle.xc_input.specs.Named.{IsKnownUse}
use Rattle.xc_input.specs.declared.problem.Use.{Use}
use Rattle.xc_search.proofs.FillLemmas.{zero_kept, zero_here, told_on, told_all, told_whole}
use Rattle.xc_search.proofs.few.filling.note_holders.Goals as goal

pub loop-u-preserved : goal.loop-u-preserved
loop-u-preserved c =
    let d : Use = record { item = 0; colour = 0 } in
    let known : IsKnownUse c.args.problem.now (get_or c.option-u-items.result.now c.loop-u.u-index d) =
    All-get_or (IsKnownUse c.args.problem.now) c.option-u-items.result.now c.loop-u.u-index d (omega arith)
    c.option-u-items.ensures.known in
    let room : (get_or c.option-u-items.result.now c.loop-u.u-index d).item < length c.loop-u.holders =
    omega (arith, known.0.1, c.requires.room) in
    record {
      items = λ k h. zero_kept _ _ _ room (c.loop-u.invariant.items k h);
      held = λ y j h e. zero_kept _ _ _ room (c.loop-u.invariant.held y j h e);
      here = λ j e. zero_here _ _ _ j _ (omega arith) room (c.loop-u.invariant.here j) e;
    }

pub loop-u-2-preserved : goal.loop-u-2-preserved
loop-u-2-preserved c = λ j met y.
    let d : Use = record { item = 0; colour = 0 } in
    let known : IsKnownUse c.args.problem.now (get_or c.option-u-items-in-loop-x.result.now c.loop-u-2.u-index d) =
    All-get_or (IsKnownUse c.args.problem.now) c.option-u-items-in-loop-x.result.now c.loop-u-2.u-index d (omega arith)
    c.option-u-items-in-loop-x.ensures.known in
    let room : (get_or c.option-u-items-in-loop-x.result.now c.loop-u-2.u-index d).item < length c.loop-u-2.holders =
    omega (arith, known.0.1, c.requires.room) in
    told_on c.loop-u-2.holders c.option-u-items-in-loop-x.result.now c.loop-x.x c.loop-u-2.u-index j y d _
    (omega (arith, c.requires.few_options)) (omega arith) room (c.loop-u-2.invariant j met y)

pub loop-x-preserved : goal.loop-x-preserved
loop-x-preserved c = λ j met y.
    let us = c.option-u-items-in-loop-x in
    c.loop-u-2.invariant j met y
    ∙ told_all c.args.problem.now.puzzle c.args.options.now us.result.now c.loop-x.x c.loop-u-2.u-index j y
    us.ensures.value (omega arith)

pub returns-clause-items : goal.returns-clause-items
returns-clause-items c = λ k d h y.
    c.loop-x.invariant (get_or c.args.items.now k d) (inl (k, h, get_or_default c.args.items.now k 0 d h)) y
    ∙ told_whole c.args.problem.now.puzzle c.args.options.now c.loop-x.x (get_or c.args.items.now k d) y (omega arith)
