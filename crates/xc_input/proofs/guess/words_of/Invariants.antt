use Rattle.std.proofs.Common.{◌-◌, length}
use Rattle.xc_input.specs.inner.Stored.{AreWords, key_names}
use Rattle.xc_input.proofs.guess.words_of.Given as goal

abbrev pub invariant-loop-name : goal.invariant-loop-name
invariant-loop-name l = AreWords (key_names l.names.keys) l.words.items

abbrev pub decreases-loop-name : goal.decreases-loop-name
decreases-loop-name l = length l.names.keys - length l.words.items
