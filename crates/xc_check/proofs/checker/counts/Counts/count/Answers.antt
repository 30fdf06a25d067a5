use Rattle.std.proofs.Common.{◌∙◌, ap, ℕ}
use Rattle.std.proofs.lemmas.List.{map-append}
use Rattle.xc_check.specs.inner.Classes.{added, colours_after}
use Rattle.xc_check.proofs.CountedCovers.{uses_in-take, length-raised, length-coloured, coloured-append, raised-append}
use Rattle.xc_check.proofs.CountedCovers.{known_items, classes_usable, added_once, zeros-at}
use Rattle.std.proofs.lemmas.Grind.{common_steps}
use Rattle.std.proofs.Common.{arith, ◌≢◌, get_or}
use Rattle.xc_input.specs.declared.problem.Use.{Use}
use Rattle.xc_text.proofs.ListLemmas.{AllPairs-from_each_two}
use Rattle.xc_check.proofs.checker.counts.Counts.count.Goals as goal

pub loop-class-init : goal.loop-class-init
loop-class-init c = grind (arith, common_steps, zeros-at)

pub overflow_add-index_mut : goal.overflow_add-index_mut
overflow_add-index_mut c = grind (arith, common_steps)

pub add-requires-clause-items : goal.add-requires-clause-items
add-requires-clause-items c = grind (arith, known_items)

pub add-requires-clause-distinct : goal.add-requires-clause-distinct
add-requires-clause-distinct c =
    AllPairs-from_each_two (λ (u v : Use). u.item ≢ v.item) _ (classes_usable c.args.options.now
    c.requires.indexed.sound c.requires.indexed.classes _ _ c.uses.ensures.value).1

pub loop-class-preserved : goal.loop-class-preserved
loop-class-preserved c =
    let b = c.args.options.now in
    let i = c.loop-class.class-index in
    let us = c.uses.result.now in
    let more = uses_in-take b.classes c.args.chosen.now i us c.loop-class-test.true c.uses.ensures.value in
    let own = classes_usable b c.requires.indexed.sound c.requires.indexed.classes _ us c.uses.ensures.value in
    let once = λ (k : ℕ). added_once _ us c.loop-class.self.times.items k own.0 own.1 in
    let read = (c.loop-class.invariant.few (get_or c.args.chosen.now i 0)).1 in
    record {
      times = c.add.ensures.times ∙ rw (more, map-append, raised-append) (ap (added us) c.loop-class.invariant.times);
      colours = c.add.ensures.colours ∙ rw (more, coloured-append)
          (ap (colours_after us) c.loop-class.invariant.colours);
      asked = grind (arith, common_steps);
      short = c.add.ensures.short;
      items = grind (arith, length-raised);
      size = grind (arith, length-raised, length-coloured);
      classes = grind (arith, common_steps);
      few = λ k. (
        omega (arith, c.loop-class.invariant.few k, once k, ap (λ ts. get_or ts k 0) c.add.ensures.times),
        grind (arith, common_steps, c.loop-class.invariant.few k, read),
      );
    }
