use Rattle.std.proofs.Common.{arith}
use Rattle.std.proofs.Common.{ℕ, List, ◌≡◌, ◌∙◌, length, replicate, ap}
use Rattle.xc_check.specs.inner.Classes.{item_places, uses_in, added, raised, lowered}
use Rattle.xc_check.proofs.CountedCovers.{length-raised, length-coloured, lowered_back, counted-cover, cover-counted}
use Rattle.xc_check.proofs.checker.cover_counter.CoverCounter.is_cover.Goals as goal

-- what was counted from zeros and then forgotten is as before
forgotten : (ks ns : List ℕ) {now after : List ℕ} → ns ≡ replicate (length ns) 0 → now ≡ raised ks ns
    → after ≡ lowered ks now → after ≡ ns
forgotten ks ns z e h = h ∙ ap (lowered ks) e ∙ lowered_back ks ns z

pub is_cover-cover-requires : goal.is_cover-cover-requires
is_cover-cover-requires c = grind (arith, length-raised, length-coloured)

pub clear-requires : goal.clear-requires
clear-requires c = grind (arith, length-raised)

pub invariant_of-self : goal.invariant_of-self
invariant_of-self c =
    let us = uses_in c.args.options.now.classes c.args.chosen.now in
    let times = forgotten (item_places us) _ c.self.invariant.times c.count.ensures.times c.clear.ensures.times in
    let asked = forgotten c.args.chosen.now _ c.self.invariant.asked c.count.ensures.asked c.clear.ensures.asked in
    record {
      times = rw times c.self.invariant.times;
      colours = rw (c.clear.ensures.colours, c.count.ensures.colours, length-coloured, times) c.self.invariant.colours;
      asked = rw asked c.self.invariant.asked;
      needed = rw times c.self.invariant.needed;
    }

pub returns-clause-same : goal.returns-clause-same
returns-clause-same c =
    let us = uses_in c.args.options.now.classes c.args.chosen.now in
    let times = forgotten (item_places us) _ c.self.invariant.times c.count.ensures.times c.clear.ensures.times in
    let asked = forgotten c.args.chosen.now _ c.self.invariant.asked c.count.ensures.asked c.clear.ensures.asked in
    rw (times, asked) c.self.view_is

pub returns-clause-decided : goal.returns-clause-decided
returns-clause-decided c = grind (arith, added, counted-cover, cover-counted)
