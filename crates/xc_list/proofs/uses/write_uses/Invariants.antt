use Rattle.std.proofs.Common.{take}
use Rattle.xc_list.specs.inner.Writing.{use_text}
use Rattle.std.specs.Prelude.{flat_map}
use Rattle.xc_text.specs.Texts.{Took}
use Rattle.xc_list.proofs.uses.write_uses.Given as goal

-- the texts so far were taken, and no failure came
abbrev pub invariant-loop-u : goal.invariant-loop-u
invariant-loop-u g l =
    Took (g.S.Sink.state l.fn.sink) (g.S.Sink.state l.sink) (flat_map (use_text l.problem) (take l.u-index l.uses))
