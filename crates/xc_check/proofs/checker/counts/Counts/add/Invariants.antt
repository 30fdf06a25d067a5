use Rattle.std.proofs.Common.{ℕ, suc, ◌≡◌, ◌+◌, ◌^◌, ◌<◌, drop, length, get_or}
use Rattle.xc_check.specs.inner.Classes.{added, colours_after, short_of}
use Rattle.xc_check.proofs.CountedCovers.{held}
use Rattle.xc_check.proofs.checker.counts.Counts.add.Given as goal

-- what is left makes of the counts what all uses make of those before, and no count grows too large by it
abbrev pub invariant-loop-u : goal.invariant-loop-u
invariant-loop-u l = record {
  times : added (drop l.u-index l.uses) l.self.times.items ≡ added l.uses l.initial.self.times.items;
  colours : colours_after (drop l.u-index l.uses) l.self.colours.items
      ≡ colours_after l.uses l.initial.self.colours.items;
  asked : l.self.asked ≡ l.initial.self.asked;
  short : l.self.short ≡ short_of l.bounds l.self.times.items;
  items : length l.self.times.items ≡ length l.initial.self.times.items;
  size : length l.self.colours.items ≡ length l.self.times.items;
  few : (k : ℕ) → get_or l.self.times.items k 0 + held (suc k) (drop l.u-index l.uses) < 2 ^ 64;
}
