use Rattle.std.proofs.Common.{◌++◌, ◌∙◌, ap, subst, append_assoc, inr, arith}
use Rattle.std.proofs.lemmas.Result.{err_from_is_err_and}
use Rattle.std.proofs.lemmas.List.{length-append}
use Rattle.xc_text.specs.Calls.{Rose}
use Rattle.xc_text.specs.Words.{has}
use Rattle.xc_text.proofs.LineLemmas.{carried-on, came-gave, came-read, gave_end, gave_kept}
use Rattle.xc_text.proofs.line_reader.LineReader.advance.Goals as goal

pub returns-in_err-refill : goal.returns-in_err-refill
returns-in_err-refill g c =
    let error = err_from_is_err_and c.from_residual-in_err-refill.result c.from_residual-in_err-refill.ensures.1 in
    let i = c.reading.invariant in
    let cut = rw c.if-branch.false at c.in_ok-cut.ensures.cut in
    let on = carried-on c.reading.self.rest c.reading.self.unread c.args.self.now.unread i.bytes _
    i.all i.partial cut.0 cut.1 in
    let read = c.in_err-refill.ensures.read in
    rw (error.1, error.2) (
      i.bytes,
      gave_kept _ _ _ i.bytes (came-gave i.came) read.1 read.2,
      on.2,
      subst (λ n. Rose n (g.S.Source.state c.refill.new.source).failures) i.no_failure read.0,
      read.4,
    )

pub returns-then-not-branch : goal.returns-then-not-branch
returns-then-not-branch g c =
    let i = c.reading.invariant in
    let cut = rw c.if-branch.false at c.in_ok-cut.ensures.cut in
    let on = carried-on c.reading.self.rest c.reading.self.unread c.args.self.now.unread i.bytes _
    i.all i.partial cut.0 cut.1 in
    let read = rw c.if-not-branch.true at c.in_ok-refill.ensures.read in (
      i.bytes,
      gave_end _ _ _ i.bytes c.refill.new.self.unread (came-gave i.came) i.no_failure read.0 read.2 read.3
          read.4.0 read.4.1,
      c.in_ok-refill.ensures.rest ∙ on.0,
      ap (has 10) c.in_ok-refill.ensures.rest ∙ on.1,
      read.4.0,
    )

pub reading-preserved : goal.reading-preserved
reading-preserved g c =
    let i = c.reading.invariant in
    let cut = rw c.if-branch.false at c.in_ok-cut.ensures.cut in
    let on = carried-on c.reading.self.rest c.reading.self.unread c.args.self.now.unread i.bytes _
    i.all i.partial cut.0 cut.1 in
    let read = rw c.if-not-branch.false at c.in_ok-refill.ensures.read in
    let piece = c.refill.new.self.unread in
    record {
      bytes = i.bytes ++ piece;
      came = inr (came-read _ i.bytes piece _ _ _ i.came on.2 read.4 read.2 read.3);
      no_failure = read.0 ∙ i.no_failure;
      limit = grind (arith, length-append, read.1, i.limit);
      all = ap (λ t. t ++ piece) (c.in_ok-refill.ensures.rest ∙ on.0)
          ∙ append_assoc c.args.self.now.unread i.bytes piece;
      partial = ap (has 10) c.in_ok-refill.ensures.rest ∙ on.1;
    }
