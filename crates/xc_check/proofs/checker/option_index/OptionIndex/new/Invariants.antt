use Rattle.std.proofs.Common.{◌≡◌}
use Rattle.indexmap.specs.IndexSet.{hasher_of}
use Rattle.xc_check.specs.inner.Classes.{AreClassesTo, key_uses}
use Rattle.xc_check.proofs.checker.option_index.OptionIndex.new.Given as goal

abbrev pub invariant-loop-o : goal.invariant-loop-o
invariant-loop-o l = record {
  classes : AreClassesTo l.problem.puzzle l.o (key_uses l.classes.keys) l.sizes.items;
  seed : hasher_of l.classes ≡ l.problem.seed;
}
