use Rattle.std.proofs.Common.{take}
use Rattle.std.specs.Prelude.{flat_map}
use Rattle.xc_text.specs.Texts.{Took}
use Rattle.xc_list.specs.Messages.{warning_text}
use Rattle.xc_list.proofs.messages.write_warnings.Given as goal

-- the texts so far were taken, and no failure came
abbrev pub invariant-loop-line : goal.invariant-loop-line
invariant-loop-line g l =
    Took (g.S.Sink.state l.fn.sink) (g.S.Sink.state l.sink) (flat_map warning_text (take l.line-index l.lines))
