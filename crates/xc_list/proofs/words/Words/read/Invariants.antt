use Rattle.std.proofs.Common.{◌≡◌, ◌+◌, drop, map, Ok}
use Rattle.xc_list.proofs.Writing.{read_on}
use Rattle.xc_list.specs.Settings.{read_words}
use Rattle.xc_list.proofs.words.Words.read.Given as goal

-- the words so far ask for this
abbrev pub invariant-loop-before : goal.invariant-loop-before
invariant-loop-before l = record {
  same : read_words (map (λ w. w.items) l.words) ≡ read_on (l.before + 1) (Ok l.asked)
      (map (λ w. w.items) (drop l.before l.words));
}
