use Rattle.std.proofs.lemmas.Grind.{common_steps}
use Rattle.std.proofs.Common.{arith}
use Rattle.std.proofs.Common.{◌∙◌, ap}
use Rattle.xc_check.specs.inner.Classes.{cleared}
use Rattle.xc_check.proofs.CountedCovers.{length-lowered, lowered-append, known_items, uses_in-take}
use Rattle.std.proofs.lemmas.List.{take_more, map-append}
use Rattle.xc_check.proofs.checker.counts.Counts.clear.Goals as goal

pub clear_uses-requires : goal.clear_uses-requires
clear_uses-requires c = grind (arith, length-lowered, known_items)

pub loop-class-preserved : goal.loop-class-preserved
loop-class-preserved c =
    let ks = c.args.chosen.now in
    let i = c.loop-class.class-index in
    let us = c.uses.result.now in
    let more = uses_in-take c.args.options.now.classes ks i _ c.loop-class-test.true c.uses.ensures.value in
    record {
      times = c.clear_uses.ensures.times
          ∙ rw (more, map-append, lowered-append) (ap (cleared us) c.loop-class.invariant.times);
      colours = c.clear_uses.ensures.colours ∙ c.loop-class.invariant.colours;
      asked = grind (arith, common_steps, take_more, lowered-append);
    }
