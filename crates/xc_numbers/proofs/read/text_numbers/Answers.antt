use Rattle.std.proofs.Common.{◌+◌, arith}
use Rattle.xc_text.specs.Lines.{lines_of}
use Rattle.xc_numbers.specs.SignedNumbers.{numbers_of_lines}
use Rattle.xc_numbers.proofs.NumberLemmas.{line_more}
use Rattle.xc_numbers.proofs.read.text_numbers.Goals as goal

pub loop-rest-preserved : goal.loop-rest-preserved
loop-rest-preserved c =
    let old = c.loop-rest.invariant in
    let added = c.in-Ok.ensures.added in
    let more = line_more c.loop-rest.numbers.items added.0 (c.loop-rest.count + 1) c.cut_line.result.0.now
    (lines_of c.loop-rest.rest.now) (lines_of c.cut_line.result.1.now) (numbers_of_lines 1 (lines_of c.args.text.now))
    c.cut_line.ensures.lines added.1 old.same in
    record {
      few = omega (arith, c.cut_line.ensures.shorter, old.few);
      same = rw added.2 more;
      short = c.add_numbers.ensures.short old.short;
    }
