use Rattle.std.proofs.lemmas.Bool.Decides.{nat_tests}
use Rattle.std.proofs.Common.{arith, ◌-◌}
use Rattle.xc_check.proofs.CountedCovers.{held_once_more}
use Rattle.xc_check.proofs.checker.counts.Counts.hold.Goals as goal
use Rattle.xc_check.proofs.checker.counts.Counts.hold.Goals.{else-place-bounds-via-then-place-bounds+else-times-bounds}
use Rattle.xc_check.proofs.checker.counts.Counts.hold.Goals.{else-place-bounds-via-else-place-bounds}

pub overflow_sub-self : goal.overflow_sub-self
overflow_sub-self c =
    let fact = held_once_more c.args.bounds.now c.args.self.now.times.items (c.args.u.item - 1) c.index.result.now
    (record { low = 0; high = 0 }) (omega (arith, c.requires.item)) c.index.ensures in
    grind (arith, nat_tests, c.requires.short, c.if-place-bounds.true, c.if-times-bounds.true)

pub returns-then-times-bounds-clause-short : goal.returns-then-times-bounds-clause-short
returns-then-times-bounds-clause-short c =
    let fact = held_once_more c.args.bounds.now c.args.self.now.times.items (c.args.u.item - 1) c.index.result.now
    (record { low = 0; high = 0 }) (omega (arith, c.requires.item)) c.index.ensures in
    grind (arith, nat_tests, c.requires.short, c.if-place-bounds.true, c.if-times-bounds.true)

pub returns-else-place-bounds-clause-short : goal.returns-else-place-bounds-clause-short
returns-else-place-bounds-clause-short c =
    let fact = held_once_more c.args.bounds.now c.args.self.now.times.items (c.args.u.item - 1) c.index.result.now
    (record { low = 0; high = 0 }) (omega (arith, c.requires.item)) c.index.ensures in
    elim c.else-place-bounds.branch [
      | else-place-bounds-via-then-place-bounds+else-times-bounds w ↦
          grind (arith, nat_tests, c.requires.short, w.if-times-bounds.false)
      | else-place-bounds-via-else-place-bounds w ↦ grind (arith, nat_tests, c.requires.short, w.if-place-bounds.false)
    ]
