use Rattle.std.proofs.Common.{◌≡◌, length, ◌≤◌}
use Rattle.xc_input.specs.Limits.{most_items}
use Rattle.xc_input.specs.Tokens.{tokens}
use Rattle.xc_input.specs.inner.Builders.{AreNames, AreSameItems}
use Rattle.xc_input.specs.inner.Stored.{AreWords, key_names}
use Rattle.xc_input.proofs.OptionLemmas.{IsBehind}
use Rattle.indexmap.specs.IndexSet.{hasher_of}
use Rattle.xc_input.proofs.option_line.option_line.Given as goal

abbrev pub invariant-loop-token : goal.invariant-loop-token
invariant-loop-token l = record {
  same : AreSameItems l.fn.tables l.tables;
  named : AreNames (key_names l.tables.names.keys);
  few_items : length l.tables.names.keys ≤ most_items;
  words : AreWords (key_names l.tables.names.keys) l.tables.guesses.words.items;
  colour_seed : hasher_of l.tables.colours ≡ hasher_of l.fn.tables.colours;
  behind : IsBehind l.kind (key_names l.tables.names.keys) l.tables.primary (tokens l.line) (tokens l.rest)
      (key_names l.fn.tables.colours.keys) l.fn.tables.uses.items l.tables.marks.items (key_names l.tables.colours.keys)
      l.tables.uses.items;
}

abbrev pub decreases-loop-token : goal.decreases-loop-token
decreases-loop-token l = length l.rest
