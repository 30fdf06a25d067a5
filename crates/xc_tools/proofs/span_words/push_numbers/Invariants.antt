use Rattle.std.proofs.Common.{◌≡◌, ◌++◌, map, take}
use Rattle.xc_tools.specs.inner.SpanLines.{saturating_number}
use Rattle.xc_tools.proofs.span_words.push_numbers.Given as goal

-- the numbers of the words so far stand behind the others
abbrev pub invariant-loop-word : goal.invariant-loop-word
invariant-loop-word l = l.store.items
    ≡ l.fn.store.items ++ map saturating_number (map (λ w. w.now) (take l.word-index l.words))
