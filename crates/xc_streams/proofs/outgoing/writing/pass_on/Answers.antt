use Rattle.std.proofs.Math.Seq.{take-add}
use Rattle.xc_text.proofs.SinkLemmas.{appends_more}
use Rattle.std.proofs.Common.{arith}
use Rattle.std.proofs.lemmas.Grind.{common_steps}
use Rattle.xc_streams.proofs.outgoing.writing.pass_on.Goals as goal

pub loop-place-preserved : goal.loop-place-preserved
loop-place-preserved g c = grind (arith, common_steps, take-add, appends_more)
