use Rattle.std.proofs.Common.{◌≡◌, ◌+◌, ◌-◌, ◌*◌, ◌≤◌, reverse}
use Rattle.xc_dance.specs.inner.Tables.{lent, lent_writes, IsRow, IsLinkRow}
use Rattle.xc_dance.specs.inner.Walks.{places}
use Rattle.xc_dance.proofs.WalkLemmas.{Underway, unhide_walk}
use Rattle.xc_dance.proofs.links.steps.unhide_range.Given as goal

abbrev pub invariant-loop-q : goal.invariant-loop-q
invariant-loop-q l = record {
  walk : Underway unhide_walk (lent l.initial.top l.initial.links l.color)
      (reverse (places l.a l.b)) (lent l.top l.links l.color) (reverse (places l.a l.q)) l.count;
  counted : lent_writes l.top l.links l.color ≡ lent_writes l.initial.top l.initial.links l.color + l.count;
  rows : IsRow l.initial.top l.top × IsLinkRow l.initial.links l.links;
  few : l.count + 3 * (l.q - l.a) ≤ 3 * (l.b - l.a);
}
