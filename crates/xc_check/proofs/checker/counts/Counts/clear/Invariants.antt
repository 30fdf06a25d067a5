use Rattle.std.proofs.Common.{◌≡◌, take}
use Rattle.xc_check.specs.inner.Classes.{cleared, lowered, uses_in}
use Rattle.xc_check.proofs.checker.counts.Counts.clear.Given as goal

abbrev pub invariant-loop-class : goal.invariant-loop-class
invariant-loop-class l = record {
  times : l.self.times.items ≡ cleared (uses_in l.options.classes (take l.class-index l.chosen))
      l.initial.self.times.items;
  colours : l.self.colours ≡ l.initial.self.colours;
  asked : l.self.asked.items ≡ lowered (take l.class-index l.chosen) l.initial.self.asked.items;
}
