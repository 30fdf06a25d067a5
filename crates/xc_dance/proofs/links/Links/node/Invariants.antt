use Rattle.std.proofs.Common.{◌≤◌, ◌-◌}
use Rattle.xc_moves.specs.Places.{link_place}
use Rattle.xc_moves.specs.inner.Uses.{start_at}
use Rattle.xc_dance.proofs.links.Links.node.Given as goal

-- from the option's first node to the one that is sought
abbrev pub invariant-loop-self : goal.invariant-loop-self
invariant-loop-self l = record {
  from : start_at l.self-inside.fixed (l.o - 1) ≤ l.place;
  to : l.place ≤ link_place l.self-inside.fixed l.i l.o;
}

abbrev pub decreases-loop-self : goal.decreases-loop-self
decreases-loop-self l = link_place l.self-inside.fixed l.i l.o - l.place
