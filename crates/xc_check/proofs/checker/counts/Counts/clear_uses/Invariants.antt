use Rattle.std.proofs.Common.{◌≡◌, drop, length}
use Rattle.xc_check.specs.inner.Classes.{cleared}
use Rattle.xc_check.proofs.checker.counts.Counts.clear_uses.Given as goal

abbrev pub invariant-loop-u : goal.invariant-loop-u
invariant-loop-u l = record {
  times : cleared (drop l.u-index l.uses) l.self.times.items ≡ cleared l.uses l.initial.self.times.items;
  colours : l.self.colours ≡ l.initial.self.colours;
  asked : l.self.asked ≡ l.initial.self.asked;
  items : length l.self.times.items ≡ length l.initial.self.times.items;
}
