use Rattle.std.proofs.Common.{inl, inr}
use Rattle.xc_tools.proofs.RunLemmas.{listing_begins}
use Rattle.xc_tools.proofs.judging.judge_by.Goals as goal

pub returns-in-Ok-clause-begins : goal.returns-in-Ok-clause-begins
returns-in-Ok-clause-begins g c =
    let read = c.in-Ok.read in
    elim (listing_begins read.problem _ _ _ _ _ c.judge_listing.ensures.did) [
      | inl kept ↦ inl kept
      | inr told ↦
          rw (← c.in-Some.ensures)
          (inr (read.problem, read.ignored.items, c.in-Ok.ensures.whole, told.0, told.1, told.2))
    ]
