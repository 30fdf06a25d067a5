use Rattle.std.proofs.Common.{take, length, ◌-◌, ◌≤◌}
use Rattle.xc_text.specs.Texts.{Took}
use Rattle.xc_list.specs.inner.Writing.{numbers_text, row_in}
use Rattle.xc_list.proofs.spans.write_reached.Given as goal

-- the numbers so far were taken, and no failure came
abbrev pub invariant-loop-number : goal.invariant-loop-number
invariant-loop-number g l = record {
  taken : Took (g.S.Sink.state l.fn.sink) (g.S.Sink.state l.sink) (numbers_text (take l.place (row_in l.span)));
  within : l.place ≤ length (row_in l.span);
}

abbrev pub decreases-loop-number : goal.decreases-loop-number
decreases-loop-number g l = length (row_in l.span) - l.place
