use Rattle.std.proofs.Common.{◌≡◌, ◌+◌, length}
use Rattle.xc_text.specs.Sources.{Gave}
use Rattle.xc_text.specs.Texts.{Took}
use Rattle.xc_tools.specs.inner.Joining.{Adds, IsAfter, fed_lines}
use Rattle.xc_tools.proofs.joining.feed_all.Given as goal

-- what was read so far was taken or is left, and no read failed
abbrev pub invariant-reading : goal.invariant-reading
invariant-reading g l = record {
  after : IsAfter l.lines;
  listed : l.lines.joint.listed ≡ l.fn.lines.joint.listed;
  no_failure : (g.S.Source.state l.input).failures ≡ (g.S.Source.state l.fn.input).failures;
  gave : Gave (g.S.Source.state l.fn.input) (g.S.Source.state l.input) (fed_lines l.lines l.reader.unread);
  adds : Adds l.fn.lines.joint.listed l.fn.lines.given.lines l.lines.given.lines Took (g.O.Sink.state l.fn.out)
      (g.O.Sink.state l.out);
}

abbrev pub decreases-reading : goal.decreases-reading
decreases-reading g l = (g.S.Source.state l.input).limit + length l.reader.unread
