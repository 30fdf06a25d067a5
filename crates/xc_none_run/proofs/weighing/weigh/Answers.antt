use Rattle.std.proofs.Common.{inl, length, subst, ap}
use Rattle.xc_none_run.specs.Shows.{JudgesWeights}
use Rattle.xc_none_run.proofs.weighing.weigh.Goals as goal

pub returns-in-Ok : goal.returns-in-Ok
returns-in-Ok g c =
    inl (
      c.in-Ok.weights,
      c.in-Ok.ensures.read,
      subst (λ n. JudgesWeights c.args.problem.now n c.judge_weights.result (g.E.Sink.state c.args.err.now)
          (g.E.Sink.state c.judge_weights.new.err)) (ap length c.as_slice.ensures.value) c.judge_weights.ensures,
    )
