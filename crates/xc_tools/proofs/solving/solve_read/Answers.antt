use Rattle.std.proofs.Common.{inr}
use Rattle.xc_text.specs.Texts.{seen}
use Rattle.xc_tools.proofs.solving.solve_read.Goals as goal

pub returns-in-Ok : goal.returns-in-Ok
returns-in-Ok g c = record {
  did = inr (seen g.E.Sink.state c.warnings.new.sink, c.in-Ok.ensures, c.solve_problem.ensures.did);
}
