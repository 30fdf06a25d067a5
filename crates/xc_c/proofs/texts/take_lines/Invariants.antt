use Rattle.std.proofs.Common.{◌≡◌, ◌++◌, None, length}
use Rattle.xc_text.specs.Lines.{lines_of}
use Rattle.xc_c.proofs.texts.take_lines.Given as goal

-- what the reader took, and the rest, is the text
abbrev pub invariant-loop-rest : goal.invariant-loop-rest
invariant-loop-rest l = (l.reader.kind ≡ l.fn.reader.kind) × (l.reader.error ≡ None)
    × (l.reader.lines ++ lines_of l.rest ≡ lines_of l.text)

abbrev pub decreases-loop-rest : goal.decreases-loop-rest
decreases-loop-rest l = length l.rest
