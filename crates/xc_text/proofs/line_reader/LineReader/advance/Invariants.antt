use Rattle.std.proofs.Common.{◌≡◌, ◌+◌, ◌++◌, ℕ, List, length, false}
use Rattle.xc_text.specs.LinesRead.{Came}
use Rattle.xc_text.specs.Words.{has}
use Rattle.xc_text.proofs.line_reader.LineReader.advance.Given as goal

-- what was left and what reads gave is carried on or left, with no line feed before the last piece, and no read failed
abbrev pub invariant-reading : goal.invariant-reading
invariant-reading g l = record {
  bytes : List ℕ;
  came : Came l.fn.self.unread (g.S.Source.state l.fn.source) (g.S.Source.state l.source) bytes;
  no_failure : (g.S.Source.state l.source).failures ≡ (g.S.Source.state l.fn.source).failures;
  limit : (g.S.Source.state l.source).limit + length bytes ≡ (g.S.Source.state l.fn.source).limit;
  all : l.self.rest ++ l.self.unread ≡ l.fn.self.unread ++ bytes;
  partial : has 10 l.self.rest ≡ false;
}

abbrev pub decreases-reading : goal.decreases-reading
decreases-reading g l = (g.S.Source.state l.source).limit
