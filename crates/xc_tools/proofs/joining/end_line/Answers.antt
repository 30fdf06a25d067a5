use Rattle.std.proofs.Common.{◌++◌, ◌∷◌, [], ◌∙◌, ap, sym, subst}
use Rattle.std.specs.Prelude.{IfErr}
use Rattle.xc_text.specs.Words.{has}
use Rattle.xc_text.specs.inner.LineFeeds.{ended}
use Rattle.xc_text.proofs.LineLemmas.{before_end}
use Rattle.xc_tools.specs.inner.Joining.{StopsIn}
use Rattle.xc_tools.proofs.Stopped.{ended-more}
use Rattle.xc_tools.proofs.joining.end_line.Goals as goal

pub take_line-requires-clause-free : goal.take_line-requires-clause-free
take_line-requires-clause-free g c =
    let line = c.requires.line in
    ap (has 10) (before_end c.args.with_feed.now line.front 10 line.is) ∙ line.free

pub take_line-requires-clause-with_feed : goal.take_line-requires-clause-with_feed
take_line-requires-clause-with_feed g c =
    let line = c.requires.line in
    line.is ∙ ap (λ t. t ++ 10 ∷ []) (sym (before_end c.args.with_feed.now line.front 10 line.is))

pub returns-clause-given : goal.returns-clause-given
returns-clause-given g c =
    let line = c.requires.line in
    let whole = line.is ∙ ap (λ t. t ++ 10 ∷ []) (sym (before_end c.args.with_feed.now line.front 10 line.is)) in
    ended-more _ _ _ _ c.take_line.result whole (rw c.count_line.ensures.given at c.take_line.ensures.given)

pub returns-clause-stops : goal.returns-clause-stops
returns-clause-stops g c =
    let line = c.requires.line in
    let whole = line.is ∙ ap (λ t. t ++ 10 ∷ []) (sym (before_end c.args.with_feed.now line.front 10 line.is)) in
    let lines = c.args.lines.now.given.lines in
    subst (λ bs. IfErr c.take_line.result (StopsIn c.args.lines.now.joint.listed lines (ended lines ++ bs)
    c.take_line.new.lines.joint (g.O.Sink.state c.args.out.now) (g.O.Sink.state c.take_line.new.out)))
    (sym whole) (rw (c.count_line.ensures.joint, c.count_line.ensures.given) at c.take_line.ensures.stops)
