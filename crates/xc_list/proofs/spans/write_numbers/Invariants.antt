use Rattle.std.proofs.Common.{take}
use Rattle.std.specs.Prelude.{flat_map}
use Rattle.xc_text.specs.Texts.{Took}
use Rattle.xc_list.specs.inner.Writing.{dotted}
use Rattle.xc_list.proofs.spans.write_numbers.Given as goal

-- the texts so far were taken, and no failure came
abbrev pub invariant-loop-n : goal.invariant-loop-n
invariant-loop-n g l = Took (g.S.Sink.state l.fn.sink) (g.S.Sink.state l.sink)
    (flat_map dotted (take l.n-index l.numbers))
