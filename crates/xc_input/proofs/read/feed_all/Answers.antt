-- The invariant `reading`: the reader was fed all that the source gave so far but for the bytes that `lines` holds
-- unread, and no call of the source failed. A line more keeps it (`fed-on`, `gave_then`), and the bytes that are left
-- become fewer (`shorter`). The three ways out: a read that fails (`part-unread`), a line at fault, which spoils all
-- that begins so (`part-spoiled`), and the end of the source, where the unread bytes are the rest (`all_then`).
use Rattle.std.proofs.Common.{◌++◌, ◌∙◌, [], ap, sym, subst, refl, append_assoc}
use Rattle.std.proofs.lemmas.Result.{err_from_is_err_and}
use Rattle.xc_text.specs.inner.LineFeeds.{ended}
use Rattle.xc_input.specs.inner.Feeding.{fed, Spoils}
use Rattle.xc_text.specs.Sources.{Gave, GaveAll}
use Rattle.xc_text.proofs.LineLemmas.{shorter, all_then, came-gave, gave_none, gave_then}
use Rattle.xc_input.proofs.LineLemmas.{fed-line, fed-on}
use Rattle.xc_input.proofs.LineLemmas.{part-spoiled, part-unread, recent-came, recent_none, Spoils-more}
use Rattle.xc_input.proofs.read.feed_all.Goals as goal

pub reading-init : goal.reading-init
reading-init g c =
    let source = g.S.Source.state c.args.source.now in
    record {
      between = c.requires.state;
      kind = refl;
      seeds = refl;
      no_failure = refl;
      gave = subst (Gave source source) (sym (ap (fed c.args.reader.now) c.requires.unread ∙ c.requires.nothing))
          (gave_none source);
      recent = recent_none _ source;
    }

pub returns-in_err-advance-clause-part : goal.returns-in_err-advance-clause-part
returns-in_err-advance-clause-part g c =
    let error = err_from_is_err_and c.from_residual.result c.from_residual.ensures.1 in
    let i = c.reading.invariant in
    rw (error.1, error.2) (part-unread _ _ c.reading.lines c.advance.new.self _ _ c.in_err-advance.field-0.0
    i.kind i.between i.no_failure i.gave i.recent c.in_err-advance.ensures)

pub returns-then-not-branch-clause-all : goal.returns-then-not-branch-clause-all
returns-then-not-branch-clause-all g c =
    let i = c.reading.invariant in
    let end = rw c.if-not-branch.true at c.in_ok-advance.ensures in
    let left = c.reading.lines.unread in
    subst (GaveAll (g.S.Source.state c.args.source.now) (g.S.Source.state c.advance.new.source))
    (append_assoc (ended c.reading.reader.lines) left end.0 ∙ ap (fed c.reading.reader) (sym end.2))
    (all_then _ _ _ (fed c.reading.reader left) end.0 i.gave i.no_failure end.1)

pub reading-smaller : goal.reading-smaller
reading-smaller g c =
    let one = rw c.if-not-branch.false at c.in_ok-advance.ensures in
    shorter c.reading.lines.unread one.0 c.advance.new.self.line c.advance.new.self.unread _ _ one.4 one.5 one.3

pub reading-preserved : goal.reading-preserved
reading-preserved g c =
    let i = c.reading.invariant in
    let one = rw c.if-not-branch.false at c.in_ok-advance.ensures in
    let done = c.in_ok-take_line.ensures in
    let left = c.reading.lines.unread in
    let on = fed-on c.reading.reader c.take_line.new.reader left one.0 c.advance.new.self.line c.advance.new.self.unread
    one.4 (done.ended.bytes ∙ ap (λ t. fed c.reading.reader [] ++ t) c.last_line.ensures) in
    record {
      between = done.ended.state;
      kind = done.kind ∙ i.kind;
      seeds = done.seeds ∙ i.seeds;
      no_failure = one.2 ∙ i.no_failure;
      gave = subst (Gave (g.S.Source.state c.args.source.now) (g.S.Source.state c.advance.new.source)) on
          (gave_then _ _ _ (fed c.reading.reader left) one.0 i.gave (came-gave one.1));
      recent = recent-came _ c.reading.reader left one.0 i.kind i.between i.gave i.recent one.1;
    }

pub returns-in_err-take_line-clause-part : goal.returns-in_err-take_line-clause-part
returns-in_err-take_line-clause-part g c =
    let error =
    err_from_is_err_and c.from_residual-in_err-take_line.result c.from_residual-in_err-take_line.ensures.1 in
    let i = c.reading.invariant in
    let one = rw c.if-not-branch.false at c.in_ok-advance.ensures in
    let left = c.reading.lines.unread in
    let e = c.in_err-take_line.field-0.0 in
    let all = fed-line c.reading.reader left one.0 c.advance.new.self.line c.advance.new.self.unread one.4
    ∙ ap (λ t. (fed c.reading.reader [] ++ t) ++ c.advance.new.self.unread) (sym c.last_line.ensures) in
    rw (error.1, error.2) (part-spoiled c.args.reader.now.kind e
    (subst (λ kind. Spoils kind (fed c.reading.reader left ++ one.0) e) i.kind
    (Spoils-more _ _ c.advance.new.self.unread _ e all c.in_err-take_line.ensures.ended.err))
    (gave_then _ _ _ (fed c.reading.reader left) one.0 i.gave (came-gave one.1)) (one.2 ∙ i.no_failure)
    (recent-came _ c.reading.reader left one.0 i.kind i.between i.gave i.recent one.1))
