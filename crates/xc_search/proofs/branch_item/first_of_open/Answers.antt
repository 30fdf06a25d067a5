use Rattle.std.proofs.Common.{arith, sym}
use Rattle.xc_search.proofs.ResidualLemmas.{count_first, count_on, count_ends}
use Rattle.xc_moves.proofs.MoveLemmas.{next_above-open}
use Rattle.xc_search.proofs.branch_item.first_of_open.Goals as goal

pub loop-seen-init : goal.loop-seen-init
loop-seen-init g c = record {
  counts = count_first _ _ _ (sym c.in_ok-first.ensures);
  within = omega (arith, c.requires);
}

pub loop-seen-preserved : goal.loop-seen-preserved
loop-seen-preserved g c = record {
  counts = count_on _ _ _ _ _ c.loop-seen.invariant.counts (sym c.in_ok-at.ensures);
  within = omega (arith, c.loop-seen-test.true);
}

pub returns-in-None-clause-open : goal.returns-in-None-clause-open
returns-in-None-clause-open g c =
    next_above-open (g.D.Dance.state c.args.dance.now).puzzle (g.D.Dance.state c.args.dance.now).trail 0
    c.in_ok-first.first (sym c.in_ok-first.ensures)

pub returns-in-None-clause-many : goal.returns-in-None-clause-many
returns-in-None-clause-many g c =
    let ended = count_ends _ _ _ _ c.loop-seen.invariant.counts (sym c.in-None.ensures) in
    omega (arith, ended, c.loop-seen.invariant.within, c.loop-seen-test.false)
