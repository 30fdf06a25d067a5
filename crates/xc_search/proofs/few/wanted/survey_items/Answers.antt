use Rattle.std.proofs.Common.{arith, inr, sym}
use Rattle.xc_moves.specs.Moves.{IsOpenPrimary}
use Rattle.xc_moves.proofs.MoveLemmas.{next_above-open}
use Rattle.xc_search.proofs.CollectLemmas.{is_item}
use Rattle.xc_search.proofs.ResidualLemmas.{nearer}
use Rattle.xc_search.proofs.few.wanted.survey_items.Goals.{In-Some}
use Rattle.xc_search.proofs.few.wanted.survey_items.Goals as goal

-- the item is open
opened : (g : _) (c : In-Some g)
    → IsOpenPrimary (g.D.Dance.state c.args.dance.now).puzzle (g.D.Dance.state c.args.dance.now).trail c.in-Some.i
opened g c =
    let s = g.D.Dance.state c.args.dance.now in
    next_above-open s.puzzle s.trail c.loop-i.at c.in-Some.i (sym c.in-Some.ensures)

pub len-len-requires : goal.len-len-requires
len-len-requires g c =
    let s = g.D.Dance.state c.args.dance.now in
    is_item s.puzzle s.trail c.in-Some.i (opened g (goal.at.len-len-requires g c).In-Some)

pub bounds_left-bounds-requires-clause-open : goal.bounds_left-bounds-requires-clause-open
bounds_left-bounds-requires-clause-open g c =
    rw c.requires.same at (opened g (goal.at.bounds_left-bounds-requires-clause-open g c).In-Some)

pub returns-then-len-bounds : goal.returns-then-len-bounds
returns-then-len-bounds g c = record {
  dead = λ _. (
    c.in-Some.i,
    rw c.requires.same at (opened g (goal.at.returns-then-len-bounds g c).In-Some),
    omega (
      arith,
      rw c.requires.same at c.len-len.ensures,
      c.bounds_left-bounds.ensures.low,
      c.if-len-bounds.true,
    ),
  );
}

pub beside-requires : goal.beside-requires
beside-requires g c = inr (opened g (goal.at.beside-requires g c).In-Some)

pub loop-i-smaller : goal.loop-i-smaller
loop-i-smaller g c =
    nearer c.args.problem.now.puzzle (g.D.Dance.state c.args.dance.now).trail c.loop-i.at c.in-Some.i
    (sym (rw c.requires.same at c.in-Some.ensures))

pub loop-i-preserved : goal.loop-i-preserved
loop-i-preserved g c = record {
  at_open = inr (rw c.requires.same at (opened g (goal.at.loop-i-preserved g c).In-Some));
  few = c.if-seen.false;
  short = omega (arith, c.loop-i.invariant.short, c.len-len.type_inv);
  needed = c.if-needed-gt-MOST.false;
}
