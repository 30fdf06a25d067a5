use Rattle.std.proofs.Common.{ℕ, ◌≡◌, ◌≤◌, drop, take, length, get_or}
use Rattle.xc_input.specs.Problem.{item_count}
use Rattle.xc_check.specs.inner.Classes.{added, colours_after, raised, uses_in, short_of}
use Rattle.xc_check.proofs.checker.counts.Counts.count.Given as goal

-- the classes so far are counted, and none of them raised a count by more than 1
abbrev pub invariant-loop-class : goal.invariant-loop-class
invariant-loop-class l = record {
  times : l.self.times.items ≡ added (uses_in l.options.classes (take l.class-index l.chosen)) l.fn.self.times.items;
  colours : l.self.colours.items ≡ colours_after (uses_in l.options.classes (take l.class-index l.chosen))
      l.fn.self.colours.items;
  asked : raised (drop l.class-index l.chosen) l.self.asked.items ≡ raised l.chosen l.fn.self.asked.items;
  short : l.self.short ≡ short_of l.bounds l.self.times.items;
  items : length l.self.times.items ≡ item_count l.options.problem.puzzle;
  size : length l.self.colours.items ≡ length l.self.times.items;
  classes : length l.self.asked.items ≡ length l.options.classes;
  few : (k : ℕ) → (get_or l.self.times.items k 0 ≤ l.class-index) × (get_or l.self.asked.items k 0 ≤ l.class-index);
}
