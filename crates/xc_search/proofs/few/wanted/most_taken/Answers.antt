use Rattle.std.proofs.Common.{ap, inr, sym, ◌∙◌}
use Rattle.xc_input.specs.Problem.{high_at}
use Rattle.xc_moves.specs.Moves.{IsOpenPrimary}
use Rattle.xc_moves.proofs.MoveLemmas.{next_above-open}
use Rattle.xc_search.proofs.CollectLemmas.{is_item}
use Rattle.xc_search.proofs.ResidualLemmas.{nearer}
use Rattle.xc_search.proofs.WatchedLemmas.{capped_at}
use Rattle.xc_search.proofs.few.wanted.most_taken.Goals.{In-Some}
use Rattle.xc_search.proofs.few.wanted.most_taken.Goals as goal

-- the item is open
opened : (g : _) (c : In-Some g)
    → IsOpenPrimary (g.D.Dance.state c.args.dance.now).puzzle (g.D.Dance.state c.args.dance.now).trail c.in-Some.i
opened g c =
    let s = g.D.Dance.state c.args.dance.now in
    next_above-open s.puzzle s.trail c.loop-i.at c.in-Some.i (sym c.in-Some.ensures)

pub bound-high-requires : goal.bound-high-requires
bound-high-requires g c = (opened g (goal.at.bound-high-requires g c).In-Some).0

pub len-requires : goal.len-requires
len-requires g c =
    let s = g.D.Dance.state c.args.dance.now in
    is_item s.puzzle s.trail c.in-Some.i (opened g (goal.at.len-requires g c).In-Some)

pub loop-i-smaller-then-len-options : goal.loop-i-smaller-then-len-options
loop-i-smaller-then-len-options g c =
    nearer c.args.problem.now.puzzle (g.D.Dance.state c.args.dance.now).trail c.loop-i.at c.in-Some.i
    (sym (rw c.requires.same at c.in-Some.ensures))

pub loop-i-preserved-then-len-options : goal.loop-i-preserved-then-len-options
loop-i-preserved-then-len-options g c =
    let p = c.args.problem.now.puzzle in
    let t = (g.D.Dance.state c.args.dance.now).trail in
    let here = rw c.requires.same at (opened g (goal.at.loop-i-preserved-then-len-options g c).In-Some) in
    record {
      at_open = inr here;
      capped = capped_at p t c.args.options c.in-Some.i c.len.result c.bound-high.result here
          (rw c.requires.same at c.len.ensures) c.if-len-options.true
          (c.bound-high.ensures ∙ ap (λ q. high_at q c.in-Some.i) c.requires.same) c.if-high-options.true;
    }

pub loop-i-smaller : goal.loop-i-smaller
loop-i-smaller g c =
    nearer c.args.problem.now.puzzle (g.D.Dance.state c.args.dance.now).trail c.loop-i.at c.in-Some.i
    (sym (rw c.requires.same at c.in-Some.ensures))

pub loop-i-preserved : goal.loop-i-preserved
loop-i-preserved g c = record {
  at_open = inr (rw c.requires.same at (opened g (goal.at.loop-i-preserved g c).In-Some));
  capped = c.loop-i.invariant.capped;
}
