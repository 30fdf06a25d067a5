-- The invariant `reading`: the lines so far were taken, `Gave` says that they and the unread bytes are all that the
-- source gave, and what they add was written (`Adds`). A line more keeps it (`fed-on`, `adds-then`), and the bytes that
-- are left become fewer (`shorter`). The three ways out: a read that fails (`stops-unread`), a line that stops the run
-- (`stops-reading`), and the end of the source, where the unread bytes are the rest (`all_then`).
use Rattle.std.proofs.Common.{◌++◌, ◌∙◌, ap, sym, append_assoc, subst}
use Rattle.std.proofs.lemmas.Result.{err_from_is_err_and}
use Rattle.xc_text.specs.inner.LineFeeds.{ended}
use Rattle.xc_text.specs.Sources.{GaveAll}
use Rattle.xc_text.proofs.LineLemmas.{shorter, all_then, came-gave, gave_then}
use Rattle.xc_tools.specs.inner.Joining.{Adds}
use Rattle.xc_text.specs.Texts.{Took}
use Rattle.xc_tools.proofs.Stopped.{adds-as, adds-then, fed-line, fed-on, gave-as, stops-as, stops-from, stops-more}
use Rattle.xc_tools.proofs.Stopped.{stops-reading, stops-then, stops-unread}
use Rattle.xc_tools.proofs.joining.feed_all.Goals as goal

pub returns-in_err-advance-clause-stops : goal.returns-in_err-advance-clause-stops
returns-in_err-advance-clause-stops g c =
    let error = err_from_is_err_and c.from_residual.result c.from_residual.ensures.1 in
    let i = c.reading.invariant in
    let l = c.reading.lines in
    rw (error.1, error.2) (stops-unread c.args.lines.now.joint.listed l.given.lines l.joint c.reading.reader
    c.advance.new.self _ _ c.in_err-advance.field-0.0 i.after.whole i.no_failure i.gave
    (subst (λ ls. Adds c.args.lines.now.joint.listed ls l.given.lines Took (g.O.Sink.state c.args.out.now)
    (g.O.Sink.state c.reading.out)) c.requires.none i.adds) c.in_err-advance.ensures)

pub returns-then-not-branch-clause-all : goal.returns-then-not-branch-clause-all
returns-then-not-branch-clause-all g c =
    let i = c.reading.invariant in
    let end = rw c.if-not-branch.true at c.in_ok-advance.ensures in
    let lines = c.reading.lines.given.lines in
    let left = c.reading.reader.unread in
    subst (GaveAll (g.S.Source.state c.args.input.now) (g.S.Source.state c.advance.new.source))
    (append_assoc (ended lines) left end.0 ∙ ap (λ t. ended lines ++ t) (sym end.2))
    (all_then _ _ _ (ended lines ++ left) end.0 i.gave i.no_failure end.1)

pub reading-smaller : goal.reading-smaller
reading-smaller g c =
    let one = rw c.if-not-branch.false at c.in_ok-advance.ensures in
    shorter c.reading.reader.unread one.0 c.advance.new.self.line c.advance.new.self.unread _ _ one.4 one.5 one.3

pub reading-preserved : goal.reading-preserved
reading-preserved g c =
    let i = c.reading.invariant in
    let one = rw c.if-not-branch.false at c.in_ok-advance.ensures in
    let done = c.in_ok-end_line.ensures in
    let lines = c.reading.lines.given.lines in
    let left = c.reading.reader.unread in
    let on = fed-on lines c.end_line.new.lines.given.lines left one.0 c.advance.new.self.line
    c.advance.new.self.unread one.4 (done.given ∙ ap (λ t. ended lines ++ t) c.last_line.ensures) in
    record {
      after = done.after;
      listed = done.listed ∙ i.listed;
      no_failure = one.2 ∙ i.no_failure;
      gave = gave-as on (gave_then _ _ _ (ended lines ++ left) one.0 i.gave (came-gave one.1));
      adds = adds-then c.args.lines.now.joint.listed c.args.lines.now.given.lines lines _ _ _ _ i.adds
          (adds-as i.listed done.adds);
    }

pub returns-in_err-end_line-clause-stops : goal.returns-in_err-end_line-clause-stops
returns-in_err-end_line-clause-stops g c =
    let error = err_from_is_err_and c.from_residual-in_err-end_line.result c.from_residual-in_err-end_line.ensures.1 in
    let i = c.reading.invariant in
    let one = rw c.if-not-branch.false at c.in_ok-advance.ensures in
    let lines = c.reading.lines.given.lines in
    let left = c.reading.reader.unread in
    let e = c.in_err-end_line.field-0.0 in
    let all = fed-line lines left one.0 c.advance.new.self.line c.advance.new.self.unread one.4
    ∙ ap (λ t. (ended lines ++ t) ++ c.advance.new.self.unread) (sym c.last_line.ensures) in
    rw (error.1, error.2) (stops-reading c.args.lines.now.joint.listed _ _ _ _ _ ((ended lines ++ left) ++ one.0) e
    (gave_then _ _ _ (ended lines ++ left) one.0 i.gave (came-gave one.1))
    (stops-from c.requires.none (stops-then c.args.lines.now.joint.listed c.args.lines.now.given.lines lines _ _ _ _ _ e
    i.adds (stops-more c.args.lines.now.joint.listed lines _ c.advance.new.self.unread _ _ _ _ e all
    (stops-as i.listed c.in_err-end_line.ensures.stops)))) (one.2 ∙ i.no_failure))
