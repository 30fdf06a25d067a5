use Rattle.std.proofs.Common.{sym}
use Rattle.xc_c.proofs.TextLemmas.{listed}
use Rattle.xc_c.proofs.texts.list_problem.Goals as goal

pub returns-clause-lists : goal.returns-clause-lists
returns-clause-lists c =
    let words = c.args.words in
    listed c.args.problem.now words.spacing words.limit c.bytes-listing.result.now c.args.buffer.now c.fill.new.buffer
    c.fill.result c.in-Some.status c.fill.ensures _ _ c.in_ok-end.end c.in_ok-end.ensures.run c.in_ok-tray.ensures.taken
    c.bytes-listing.ensures (sym c.in-Some.ensures)
