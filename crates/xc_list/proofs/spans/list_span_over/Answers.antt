use Rattle.std.proofs.Common.{ap}
use Rattle.xc_list.specs.SpanWords.{asked_of}
use Rattle.xc_list.proofs.SpanLemmas.{span_few}
use Rattle.xc_list.proofs.spans.list_span_over.Goals as goal

pub returns-in-Ok-wrote-clause-moves : goal.returns-in-Ok-wrote-clause-moves
returns-in-Ok-wrote-clause-moves g c =
    rw c.close-dance.ensures (span_few _ (asked_of c.args.words.now) _ c.in-Ok.span c.write_span-wrote.new.span
    c.in-Ok-wrote.went (ap (λ s. s.puzzle) c.in-Ok.ensures.begun) (rw c.start.ensures.value at c.in-Ok.ensures.way)
    c.in-Ok.ensures.moves c.in-Ok-wrote.ensures.few)
