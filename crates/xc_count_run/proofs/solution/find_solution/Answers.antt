use Rattle.std.proofs.Common.{subst}
use Rattle.xc_tools.specs.WholeRuns.{sinks}
use Rattle.xc_count_run.specs.Alone.{DidPerhapsAlone}
use Rattle.xc_count_run.specs.Solutions.{DidFind}
use Rattle.xc_count_run.proofs.solution.find_solution.Goals as goal

pub returns-in-Ok : goal.returns-in-Ok
returns-in-Ok g c =
    let old = sinks g.O.Sink.state g.E.Sink.state c.args.out.now c.args.err.now in
    let new = sinks g.O.Sink.state g.E.Sink.state c.find_numbered.new.out c.find_numbered.new.err in
    let status = c.find_numbered.result in
    record {
      did = subst (λ n. DidPerhapsAlone (λ from. DidFind c.args.problem.now n status from new) status old new)
          c.in-Ok.ensures.number.1 c.find_numbered.ensures.did;
    }
