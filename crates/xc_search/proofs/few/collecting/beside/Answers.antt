use Rattle.std.proofs.Common.{inr, sym}
use Rattle.xc_moves.proofs.MoveLemmas.{next_above-open}
use Rattle.xc_search.proofs.few.collecting.beside.Goals as goal

pub loop-seen-preserved : goal.loop-seen-preserved
loop-seen-preserved g c =
    let s = g.D.Dance.state c.args.dance.now in
    inr (next_above-open s.puzzle s.trail c.loop-seen.at c.in-Some.next (sym c.in-Some.ensures))
