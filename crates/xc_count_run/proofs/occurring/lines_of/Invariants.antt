use Rattle.std.proofs.Common.{◌≡◌, ◌+◌, ◌++◌, drop}
use Rattle.std.specs.Prelude.{flat_map}
use Rattle.std.specs.List.{enumerate_from}
use Rattle.xc_count_run.specs.Each.{option_line}
use Rattle.xc_count_run.proofs.occurring.lines_of.Given as goal

abbrev pub invariant-loop-number : goal.invariant-loop-number
invariant-loop-number l = record {
  option : l.option ≡ l.number-index;
  text : l.text.items ++ flat_map option_line (enumerate_from (l.number-index + 1) (drop l.number-index l.numbers))
      ≡ flat_map option_line (enumerate_from 1 l.numbers);
}
