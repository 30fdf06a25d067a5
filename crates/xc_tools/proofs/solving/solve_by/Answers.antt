use Rattle.std.proofs.Common.{inr}
use Rattle.xc_tools.specs.WholeRuns.{sinks}
use Rattle.xc_tools.proofs.RunLemmas.{warned_begins}
use Rattle.xc_tools.proofs.solving.solve_by.Goals as goal

pub returns-in-Ok-read_problem_by-clause-begins : goal.returns-in-Ok-read_problem_by-clause-begins
returns-in-Ok-read_problem_by-clause-begins g c =
    let read = c.in-Ok-read_problem_by.read in
    let begins = warned_begins read.problem read.ignored.items c.in-Ok.words _
    (sinks g.O.Sink.state g.E.Sink.state c.args.out.now c.args.err.now)
    (sinks g.O.Sink.state g.E.Sink.state c.solve_read.new.out c.solve_read.new.err) c.solve_read.ensures.did in
    rw (← c.in-Ok.ensures) (inr (read.problem, read.ignored.items, c.in-Ok-read_problem_by.ensures.whole, begins))
