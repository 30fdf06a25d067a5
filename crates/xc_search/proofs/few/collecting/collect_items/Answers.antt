use Rattle.std.proofs.Common.{inr, sym, arith}
use Rattle.xc_moves.proofs.MoveLemmas.{next_above-open}
use Rattle.xc_search.proofs.ResidualLemmas.{nearer}
use Rattle.xc_search.proofs.CollectLemmas.{items_first, items_on, items_end}
use Rattle.xc_search.proofs.few.collecting.collect_items.Goals as goal

pub loop-i-init : goal.loop-i-init
loop-i-init g c = items_first _ _ _ c.told-into

pub len-len-requires : goal.len-len-requires
len-len-requires g c =
    let s = g.D.Dance.state c.args.dance.now in
    let is = next_above-open s.puzzle s.trail c.loop-i.at c.in-Some.i (sym c.in-Some.ensures) in
    (omega (arith, is.0.0), omega (arith, is.0.1))

pub returns-then-len-eq0-clause-dead : goal.returns-then-len-eq0-clause-dead
returns-then-len-eq0-clause-dead g c = λ _.
    let s = g.D.Dance.state c.args.dance.now in (
      c.in-Some.i,
      next_above-open s.puzzle s.trail c.loop-i.at c.in-Some.i (sym c.in-Some.ensures),
      omega (arith, c.len-len.ensures, c.if-len-eq0.true),
    )

pub beside-requires : goal.beside-requires
beside-requires g c =
    let s = g.D.Dance.state c.args.dance.now in
    inr (next_above-open s.puzzle s.trail c.loop-i.at c.in-Some.i (sym c.in-Some.ensures))

pub loop-i-smaller : goal.loop-i-smaller
loop-i-smaller g c =
    let s = g.D.Dance.state c.args.dance.now in
    nearer s.puzzle s.trail c.loop-i.at c.in-Some.i (sym c.in-Some.ensures)

pub loop-i-preserved : goal.loop-i-preserved
loop-i-preserved g c =
    let s = g.D.Dance.state c.args.dance.now in
    items_on s.puzzle s.trail c.loop-i.at c.loop-i.items c.loop-i.total c.in-Some.i c.len-len.result c.loop-i.into
    c.loop-i.invariant (sym c.in-Some.ensures) (omega (arith, c.loop-i.invariant.few, c.if-items-eq-MOST.false))
    (omega (arith, c.if-len-gt-MOST.false))

pub returns-clause-all : goal.returns-clause-all
returns-clause-all g c = λ n e.
    let s = g.D.Dance.state c.args.dance.now in
    let end = items_end s.puzzle s.trail c.loop-i.at c.loop-i.items c.loop-i.total c.loop-i.into c.loop-i.invariant
    (sym c.in_default.ensures) in
    let few = c.loop-i.invariant.few in grind arith
