use Rattle.std.proofs.Common.{take}
use Rattle.std.specs.Prelude.{flat_map}
use Rattle.xc_text.specs.Texts.{Took}
use Rattle.xc_list.specs.Output.{choice_text}
use Rattle.xc_list.proofs.print.write_lines.Given as goal

-- the lines so far were taken, and no failure came
abbrev pub invariant-loop-choice : goal.invariant-loop-choice
invariant-loop-choice g l =
    Took (g.S.Sink.state l.fn.sink) (g.S.Sink.state l.sink)
    (flat_map (choice_text l.bodies) (take l.choice-index l.choices))
