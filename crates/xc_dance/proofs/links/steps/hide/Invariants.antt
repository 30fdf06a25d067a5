use Rattle.std.proofs.Common.{◌≡◌, ◌+◌, ◌-◌, ◌*◌, ◌<◌, ◌≤◌}
use Rattle.xc_dance.specs.inner.Tables.{lent, lent_writes, IsRow, IsLinkRow}
use Rattle.xc_dance.specs.inner.Walks.{places, span_at}
use Rattle.xc_dance.proofs.WalkLemmas.{Underway, hide_walk}
use Rattle.xc_dance.proofs.links.steps.hide.Given as goal

-- what is left stands in front of the spacer
abbrev pub invariant-loop-top : goal.invariant-loop-top
invariant-loop-top l =
    let end = (span_at l.spans l.p).end in
    record {
      walk : Underway hide_walk (lent l.initial.top l.initial.links l.color) (places (l.p + 1) end)
          (lent l.top l.links l.color) (places l.q end) l.above;
      behind : l.p < l.q;
      to : l.q ≤ end;
      counted : lent_writes l.top l.links l.color ≡ lent_writes l.initial.top l.initial.links l.color + l.above;
      rows : IsRow l.initial.top l.top × IsLinkRow l.initial.links l.links;
      few : l.above ≤ 3 * l.q;
    }

abbrev pub decreases-loop-top : goal.decreases-loop-top
decreases-loop-top l = (span_at l.spans l.p).end - l.q
