use Rattle.std.proofs.Common.{◌++◌, ◌∷◌, [], ◌∙◌, ap, sym}
use Rattle.xc_text.specs.Words.{has}
use Rattle.xc_text.proofs.LineLemmas.{before_end}
use Rattle.xc_input.proofs.LineLemmas.{ends}
use Rattle.xc_input.proofs.read.take_line.Goals as goal

pub returns-clause-ended : goal.returns-clause-ended
returns-clause-ended c =
    let line = c.requires.line in
    let front = before_end c.args.with_feed.now line.front 10 line.is in
    ends _ _ _ _ _ c.requires.state (ap (has 10) front ∙ line.free) (line.is ∙ ap (λ t. t ++ 10 ∷ []) (sym front))
    c.line.ensures.kind c.line.ensures.given c.line.ensures.error c.line.ensures.state
