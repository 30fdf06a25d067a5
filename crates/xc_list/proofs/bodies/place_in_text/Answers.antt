use Rattle.std.proofs.lemmas.List.Folds.{length-flat_map-take}
use Rattle.xc_list.specs.inner.Writing.{use_text}
use Rattle.std.proofs.Common.{arith}
use Rattle.xc_list.proofs.bodies.place_in_text.Goals as goal

pub overflow_add-place : goal.overflow_add-place
overflow_add-place c =
    let within = length-flat_map-take (use_text c.args.problem.now) c.args.uses.now c.loop-u.u-index
    (record { item = 0; colour = 0 }) c.loop-u-test.true in
    omega (arith, c.loop-u.invariant.counted, c.use_length-place.ensures, c.requires.fits)
