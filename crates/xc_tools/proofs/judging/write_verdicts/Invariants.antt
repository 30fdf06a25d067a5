use Rattle.std.proofs.Common.{take}
use Rattle.std.specs.Prelude.{flat_map}
use Rattle.xc_text.specs.Texts.{Took}
use Rattle.xc_tools.specs.Judges.{verdict_text}
use Rattle.xc_tools.proofs.judging.write_verdicts.Given as goal

-- the texts so far were taken, and no failure came
abbrev pub invariant-loop-verdict : goal.invariant-loop-verdict
invariant-loop-verdict g l =
    Took (g.S.Sink.state l.fn.sink) (g.S.Sink.state l.sink) (flat_map verdict_text (take l.verdict-index l.verdicts))
