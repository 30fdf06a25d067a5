use Rattle.std.proofs.Common.{◌≡◌, take}
use Rattle.xc_tools.specs.inner.SpanLines.{saturating_number}
use Rattle.xc_tools.proofs.span_words.saturating_number.Given as goal

abbrev pub invariant-loop-b : goal.invariant-loop-b
invariant-loop-b l = l.value ≡ saturating_number (take l.b-index l.digits)
