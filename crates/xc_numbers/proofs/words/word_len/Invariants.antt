use Rattle.std.proofs.Common.{◌≡◌, ◌≤◌, ◌+◌, ◌-◌, length, drop}
use Rattle.xc_input.specs.inner.CutTokens.{word}
use Rattle.xc_numbers.proofs.words.word_len.Given as goal

abbrev pub invariant-loop-n : goal.invariant-loop-n
invariant-loop-n l = (length (word l.line) ≡ l.n + length (word (drop l.n l.line))) × (l.n ≤ length l.line)

abbrev pub decreases-loop-n : goal.decreases-loop-n
decreases-loop-n l = length l.line - l.n
