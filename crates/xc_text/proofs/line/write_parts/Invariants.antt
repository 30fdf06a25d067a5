use Rattle.std.proofs.Common.{take}
use Rattle.std.specs.Prelude.{flat_map}
use Rattle.xc_text.specs.Texts.{Took}
use Rattle.xc_text.proofs.line.write_parts.Given as goal

-- the parts so far were taken, and no failure came
abbrev pub invariant-loop-part : goal.invariant-loop-part
invariant-loop-part g l =
    Took (g.S.Sink.state l.fn.sink) (g.S.Sink.state l.sink) (flat_map (λ part. part.now) (take l.part-index l.parts))
