use Rattle.std.proofs.Common.{◌∙◌, ap}
use Rattle.xc_tools.specs.WholeRuns.{sinks}
use Rattle.xc_tools.specs.inner.SpanLines.{Join}
use Rattle.xc_tools.proofs.Stopped.{joins-as, run-ended, run-stopped, run-unstarted}
use Rattle.xc_tools.proofs.joining.join_input.Goals as goal

pub returns-in_default : goal.returns-in_default
returns-in_default g c = record {
  did = run-unstarted c.args.listed c.flush_and_refuse.result _ (sinks g.O.Sink.state g.E.Sink.state c.args.out.now
      c.args.err.now) (sinks g.O.Sink.state g.E.Sink.state c.flush_and_refuse.new.out c.flush_and_refuse.new.err) _
      c.flush_and_refuse.ensures;
}

pub returns-in-Ok-join_all : goal.returns-in-Ok-join_all
returns-in-Ok-join_all g c = record {
  did = run-ended c.args.listed c.join_all.new.lines.joint (g.O.Sink.state c.join_all.new.out) c.finish.result
      _ _ (sinks g.O.Sink.state g.E.Sink.state c.args.out.now c.args.err.now)
      (sinks g.O.Sink.state g.E.Sink.state c.finish.new.out c.finish.new.err) _ _ _
      (joins-as _ (ap (λ j. j.listed) c.first_lines-lines.ensures.joint ∙ ap (λ (j : Join). j.listed) c.in-Ok.ensures)
      c.in-Ok-join_all.ensures.joins) c.end_of_total.ensures c.finish.ensures.kept c.finish.ensures.flushed_once
      c.finish.ensures.did;
}

pub returns : goal.returns
returns g c = record {
  did = run-stopped c.args.listed c.join_all.new.lines.joint (g.O.Sink.state c.join_all.new.out) c.tell_stop.result
      c.in-Err.stop
      _ _ (sinks g.O.Sink.state g.E.Sink.state c.args.out.now c.args.err.now)
      (sinks g.O.Sink.state g.E.Sink.state c.tell_stop.new.out c.tell_stop.new.err) _
      (joins-as _ (ap (λ j. j.listed) c.first_lines-lines.ensures.joint ∙ ap (λ (j : Join). j.listed) c.in-Ok.ensures)
      c.in-Err.ensures.joins) c.tell_stop.ensures;
}
