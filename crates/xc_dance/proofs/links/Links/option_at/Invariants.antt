use Rattle.std.proofs.Common.{ℕ, ◌≡◌, ◌≤◌, ◌-◌, length}
use Rattle.xc_moves.specs.Places.{layout, link_place, spacer_place}
use Rattle.xc_moves.specs.inner.Uses.{HoldsItem}
use Rattle.xc_dance.proofs.links.Links.option_at.Given as goal

-- from the node up to the spacer
abbrev pub invariant-loop-end : goal.invariant-loop-end
invariant-loop-end l = record {
  from : l.place ≤ l.end;
  to : (x : ℕ) → HoldsItem l.self-inside.fixed l.i x → l.place ≡ link_place l.self-inside.fixed l.i x
      → l.end ≤ spacer_place l.self-inside.fixed x;
}

abbrev pub decreases-loop-end : goal.decreases-loop-end
decreases-loop-end l = length (layout l.self-inside.fixed) - l.end
