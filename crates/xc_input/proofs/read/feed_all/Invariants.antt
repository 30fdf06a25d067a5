use Rattle.std.proofs.Common.{◌≡◌, ◌+◌, [], length}
use Rattle.xc_input.specs.inner.Feeding.{fed, IsBetween, Recent}
use Rattle.xc_text.specs.Sources.{Gave}
use Rattle.xc_input.proofs.read.feed_all.Given as goal

-- what was read so far was handed on or is left, no read failed, and what was handed on has no fault
abbrev pub invariant-reading : goal.invariant-reading
invariant-reading g l = record {
  between : IsBetween l.reader [];
  kind : l.reader.kind ≡ l.fn.reader.kind;
  seeds : l.reader.seeds ≡ l.fn.reader.seeds;
  no_failure : (g.S.Source.state l.source).failures ≡ (g.S.Source.state l.fn.source).failures;
  gave : Gave (g.S.Source.state l.fn.source) (g.S.Source.state l.source) (fed l.reader l.lines.unread);
  recent : Recent l.fn.reader.kind (g.S.Source.state l.fn.source) (g.S.Source.state l.source);
}

abbrev pub decreases-reading : goal.decreases-reading
decreases-reading g l = (g.S.Source.state l.source).limit + length l.lines.unread
