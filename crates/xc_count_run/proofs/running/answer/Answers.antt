use Rattle.std.proofs.Common.{ap, refl}
use Rattle.xc_tools.specs.WholeRuns.{sinks}
use Rattle.xc_tools.specs.CountArguments.{how_many, solution, of_each_option}
use Rattle.xc_tools.specs.CountArguments.{meaning}
use Rattle.xc_count_run.proofs.AloneLemmas.{answered, counted_alone}
use Rattle.xc_count_run.proofs.running.answer.Goals as goal

pub returns-in-HowMany : goal.returns-in-HowMany
returns-in-HowMany g c =
    let a = c.args.problem.now in
    let old = sinks g.O.Sink.state g.E.Sink.state c.args.out.now c.args.err.now in
    let new = sinks g.O.Sink.state g.E.Sink.state c.args.out.now c.count_problem.new.err in
    let status = c.count_problem.result in
    record {
      did = answered a _ how_many status old new (ap meaning c.in-HowMany.is)
          (counted_alone a status old new refl c.count_problem.ensures);
    }

pub returns-in-Solution : goal.returns-in-Solution
returns-in-Solution g c =
    let old = sinks g.O.Sink.state g.E.Sink.state c.args.out.now c.args.err.now in
    let new = sinks g.O.Sink.state g.E.Sink.state c.find_solution.new.out c.find_solution.new.err in
    record {
      did = answered c.args.problem.now _ (solution c.in-Solution.digits.now) c.find_solution.result old new
          (ap meaning c.in-Solution.is) c.find_solution.ensures.did;
    }

pub returns-in-OfEachOption : goal.returns-in-OfEachOption
returns-in-OfEachOption g c =
    let old = sinks g.O.Sink.state g.E.Sink.state c.args.out.now c.args.err.now in
    let new = sinks g.O.Sink.state g.E.Sink.state c.tell_each.new.out c.tell_each.new.err in
    record {
      did = answered c.args.problem.now _ of_each_option c.tell_each.result old new (ap meaning c.in-OfEachOption.is)
          c.tell_each.ensures.did;
    }
