use Rattle.std.proofs.Common.{◌≡◌, ◌+◌, ◌*◌, ◌<◌, ◌≤◌, reverse}
use Rattle.xc_dance.specs.inner.Tables.{lent, lent_writes, IsRow, IsLinkRow}
use Rattle.xc_dance.specs.inner.Walks.{places, span_at}
use Rattle.xc_dance.proofs.WalkLemmas.{Underway, unhide_walk}
use Rattle.xc_dance.proofs.links.steps.unhide.Given as goal

-- what is left stands behind the spacer
abbrev pub invariant-loop-top : goal.invariant-loop-top
invariant-loop-top l =
    let first = (span_at l.spans l.p).first in
    record {
      walk : Underway unhide_walk (lent l.initial.top l.initial.links l.color)
          (reverse (places first l.p)) (lent l.top l.links l.color) (reverse (places first (l.q + 1))) l.below;
      before : l.q < l.p;
      from : first ≤ l.q + 1;
      counted : lent_writes l.top l.links l.color ≡ lent_writes l.initial.top l.initial.links l.color + l.below;
      rows : IsRow l.initial.top l.top × IsLinkRow l.initial.links l.links;
      few : l.below + 3 * l.q ≤ 3 * l.p;
    }

abbrev pub decreases-loop-top : goal.decreases-loop-top
decreases-loop-top l = l.q
