use Rattle.std.proofs.Common.{◌≡◌, ◌<◌, ◌≤◌, ◌+◌, ◌-◌, length, take}
use Rattle.std.specs.Io.KnownBytes.{Appends}
use Rattle.xc_streams.proofs.outgoing.writing.pass_on.Given as goal

-- what stands before the place was passed on, and no call failed
abbrev pub invariant-loop-place : goal.invariant-loop-place
invariant-loop-place g l = record {
  within : l.place ≤ length l.bytes;
  passed : Appends (g.W.SystemWriter.contents l.fn.writer) (g.W.SystemWriter.contents l.writer) (take l.place l.bytes);
  well : (g.W.SystemWriter.asked l.writer).failures ≡ (g.W.SystemWriter.asked l.fn.writer).failures;
  wholes : l.place < length l.bytes → (g.W.SystemWriter.asked l.writer).wholes
      ≡ (g.W.SystemWriter.asked l.fn.writer).wholes;
  whole : (g.W.SystemWriter.asked l.writer).wholes ≤ (g.W.SystemWriter.asked l.fn.writer).wholes + 1;
  unflushed : (g.W.SystemWriter.asked l.writer).flushes ≡ (g.W.SystemWriter.asked l.fn.writer).flushes;
}

abbrev pub decreases-loop-place : goal.decreases-loop-place
decreases-loop-place g l = length l.bytes - l.place
