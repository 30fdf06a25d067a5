use Rattle.std.proofs.Common.{take, length, ◌-◌, ◌≤◌}
use Rattle.xc_text.specs.Texts.{Took}
use Rattle.xc_list.specs.inner.Writing.{numbers_text, branches_in}
use Rattle.xc_list.proofs.spans.write_branches.Given as goal

-- the numbers so far were taken, and no failure came
abbrev pub invariant-loop-number : goal.invariant-loop-number
invariant-loop-number g l = record {
  taken : Took (g.S.Sink.state l.fn.sink) (g.S.Sink.state l.sink) (numbers_text (take l.place (branches_in l.span)));
  within : l.place ≤ length (branches_in l.span);
}

abbrev pub decreases-loop-number : goal.decreases-loop-number
decreases-loop-number g l = length (branches_in l.span) - l.place
