use Rattle.std.proofs.Common.{take}
use Rattle.std.specs.Prelude.{flat_map}
use Rattle.std.specs.List.{enumerate_from}
use Rattle.xc_text.specs.Texts.{Took}
use Rattle.xc_none.specs.Cnf.{comment_text}
use Rattle.xc_none.proofs.cnf.write_comments.Given as goal

-- the comments so far were taken, and no failure came
abbrev pub invariant-loop-k : goal.invariant-loop-k
invariant-loop-k g l = Took (g.S.Sink.state l.fn.sink) (g.S.Sink.state l.sink)
    (flat_map (λ nm. comment_text l.problem nm.0 nm.1) (take l.k (enumerate_from 1 l.meanings)))
