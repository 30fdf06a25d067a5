use Rattle.std.proofs.Common.{inr}
use Rattle.xc_text.specs.Texts.{seen}
use Rattle.xc_count_run.proofs.occurring.tell_each.Goals as goal

pub returns-in-Ok : goal.returns-in-Ok
returns-in-Ok g c = record {
  did = inr (inr (seen g.E.Sink.state c.write_gave_up.new.err, c.in-Ok.ensures, c.search_each.ensures.did));
}
