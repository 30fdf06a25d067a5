use Rattle.xc_tools.specs.WholeRuns.{sinks}
use Rattle.xc_tools.proofs.RunLemmas.{finished}
use Rattle.xc_tools.proofs.solving.solve_problem.Goals as goal

pub returns-in-Ok-Done : goal.returns-in-Ok-Done
returns-in-Ok-Done g c =
    let run = rw c.in-Ok-Done.field-0-is at c.in-Ok-Done.ensures.run in
    let end = c.finish.ensures in
    record {
      did = finished _ _ _ (sinks g.O.Sink.state g.E.Sink.state c.finish.new.out c.finish.new.err) c.run.ensures.right
          c.run.ensures.complete run.0 run.1 end.kept end.flushed_once end.did;
    }

pub returns-in-Ok-Limit : goal.returns-in-Ok-Limit
returns-in-Ok-Limit g c =
    let run = rw c.in-Ok-Limit.field-0-is at c.in-Ok-Limit.ensures.run in
    let end = c.finish-in-Ok-Limit.ensures in
    record {
      did = finished _ _ _
          (sinks g.O.Sink.state g.E.Sink.state c.finish-in-Ok-Limit.new.out c.finish-in-Ok-Limit.new.err)
          c.run.ensures.right c.run.ensures.complete run.0 run.1 end.kept end.flushed_once end.did;
    }
