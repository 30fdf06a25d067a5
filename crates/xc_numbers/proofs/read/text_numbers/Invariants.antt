use Rattle.std.proofs.Common.{◌≡◌, ◌≤◌, ◌+◌, length, Some}
use Rattle.std.specs.Prelude.{All}
use Rattle.xc_text.specs.Lines.{lines_of}
use Rattle.xc_numbers.specs.SignedNumbers.{IsShort, numbers_of_lines, numbers_then}
use Rattle.xc_numbers.proofs.read.text_numbers.Given as goal

-- the numbers so far are those of the lines before what is left
abbrev pub invariant-loop-rest : goal.invariant-loop-rest
invariant-loop-rest l = record {
  few : l.count + length l.rest ≤ length l.text;
  same : numbers_of_lines 1 (lines_of l.text)
      ≡ numbers_then 0 (Some l.numbers.items) (numbers_of_lines (l.count + 1) (lines_of l.rest));
  short : All IsShort l.numbers.items;
}

abbrev pub decreases-loop-rest : goal.decreases-loop-rest
decreases-loop-rest l = length l.rest
