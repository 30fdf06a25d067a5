use Rattle.std.proofs.Common.{arith, ◌+◌}
use Rattle.xc_count_run.specs.Each.{option_line}
use Rattle.xc_count_run.proofs.LineLemmas.{line_added, lines_done}
use Rattle.xc_count_run.proofs.occurring.lines_of.Goals as goal

pub loop-number-preserved : goal.loop-number-preserved
loop-number-preserved c =
    let k = c.loop-number.number-index in
    record {
      option = omega (arith, c.loop-number.invariant.option);
      text = line_added option_line k (c.loop-number.option + 1) c.number-item.result c.args.numbers.now
          c.loop-number.text.items _ _ (omega arith) (omega (arith, c.loop-number.invariant.option)) c.number-item.is
          c.in_ok-add_line.ensures c.loop-number.invariant.text;
    }

pub returns : goal.returns
returns c = lines_done option_line c.loop-number.number-index c.args.numbers.now c.loop-number.text.items _
    (omega arith) c.loop-number.invariant.text
