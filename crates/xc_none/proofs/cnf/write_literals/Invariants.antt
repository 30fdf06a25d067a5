use Rattle.std.proofs.Common.{take}
use Rattle.std.specs.Prelude.{flat_map}
use Rattle.xc_text.specs.Texts.{Took}
use Rattle.xc_none.specs.Cnf.{literal_text}
use Rattle.xc_none.proofs.cnf.write_literals.Given as goal

-- the literals so far were taken, and no failure came
abbrev pub invariant-loop-literal : goal.invariant-loop-literal
invariant-loop-literal g l = Took (g.S.Sink.state l.fn.sink) (g.S.Sink.state l.sink)
    (flat_map literal_text (take l.literal-index l.literals))
