use Rattle.std.proofs.Common.{arith, sym}
use Rattle.xc_moves.specs.Moves.{IsOpenPrimary}
use Rattle.xc_moves.proofs.MoveLemmas.{next_above-open}
use Rattle.xc_search.proofs.CollectLemmas.{is_item}
use Rattle.xc_search.proofs.ResidualLemmas.{nearer}
use Rattle.xc_search.proofs.WatchedLemmas.{watched_first, watched_less, watched_more, watched_all}
use Rattle.xc_search.proofs.few.wanted.collect_watched.Goals.{In-Some}
use Rattle.xc_search.proofs.few.wanted.collect_watched.Goals as goal

pub loop-i-init : goal.loop-i-init
loop-i-init g c = watched_first _ _ _ _ _ c.told-into

-- the item is open
opened : (g : _) (c : In-Some g)
    → IsOpenPrimary (g.D.Dance.state c.args.dance.now).puzzle (g.D.Dance.state c.args.dance.now).trail c.in-Some.i
opened g c =
    let s = g.D.Dance.state c.args.dance.now in
    next_above-open s.puzzle s.trail c.loop-i.at c.in-Some.i (sym c.in-Some.ensures)

pub len-len-requires : goal.len-len-requires
len-len-requires g c =
    let s = g.D.Dance.state c.args.dance.now in
    is_item s.puzzle s.trail c.in-Some.i (opened g (goal.at.len-len-requires g c).In-Some)

pub bounds_left-bounds-requires-clause-open : goal.bounds_left-bounds-requires-clause-open
bounds_left-bounds-requires-clause-open g c =
    rw c.requires.same at (opened g (goal.at.bounds_left-bounds-requires-clause-open g c).In-Some)

pub loop-i-smaller-else-bounds-gt-MOST : goal.loop-i-smaller-else-bounds-gt-MOST
loop-i-smaller-else-bounds-gt-MOST g c =
    nearer c.args.problem.now.puzzle (g.D.Dance.state c.args.dance.now).trail c.loop-i.at c.in-Some.i
    (sym (rw c.requires.same at c.in-Some.ensures))

pub loop-i-preserved-else-bounds-gt-MOST : goal.loop-i-preserved-else-bounds-gt-MOST
loop-i-preserved-else-bounds-gt-MOST g c =
    watched_more c.args.problem.now.puzzle (g.D.Dance.state c.args.dance.now).trail c.args.options
    c.most_taken-most.result c.loop-i.at c.loop-i.items c.in-Some.i c.loop-i.into c.loop-i.invariant
    (sym (rw c.requires.same at c.in-Some.ensures))
    (omega (arith, c.loop-i.invariant.room, c.if-items-eq-MOST.false))
    (omega (arith, c.bounds_left-bounds.ensures.low, c.if-bounds-gt-MOST.false))

pub loop-i-smaller : goal.loop-i-smaller
loop-i-smaller g c =
    nearer c.args.problem.now.puzzle (g.D.Dance.state c.args.dance.now).trail c.loop-i.at c.in-Some.i
    (sym (rw c.requires.same at c.in-Some.ensures))

pub loop-i-preserved : goal.loop-i-preserved
loop-i-preserved g c =
    watched_less c.args.problem.now.puzzle (g.D.Dance.state c.args.dance.now).trail c.args.options
    c.most_taken-most.result c.loop-i.at c.loop-i.items c.in-Some.i c.len-len.result c.bounds_left-bounds.result.low
    c.bounds_left-bounds.result.high c.loop-i.into c.loop-i.invariant (sym (rw c.requires.same at c.in-Some.ensures))
    (rw c.requires.same at c.len-len.ensures) c.bounds_left-bounds.ensures.low c.bounds_left-bounds.ensures.high
    (c.is_let_go.ensures c.if-not-is_let_go.false)

pub returns-clause-watched : goal.returns-clause-watched
returns-clause-watched g c =
    watched_all _ _ _ _ _ _ _ c.loop-i.invariant (sym (rw c.requires.same at c.in_default.ensures))
    c.most_taken-most.ensures
