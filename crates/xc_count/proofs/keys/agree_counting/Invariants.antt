use Rattle.std.proofs.Common.{◌≡◌, drop}
use Rattle.xc_count.specs.inner.Held.{agree}
use Rattle.xc_count.specs.inner.Keys.{held_in}
use Rattle.xc_count.proofs.keys.agree_counting.Given as goal

abbrev pub invariant-loop-u : goal.invariant-loop-u
invariant-loop-u l = agree (held_in l.ranks l.from l.key) l.uses
    ≡ agree (held_in l.ranks l.from l.key) (drop l.u-index l.uses)
