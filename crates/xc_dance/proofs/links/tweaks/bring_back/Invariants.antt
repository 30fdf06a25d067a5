use Rattle.xc_dance.proofs.TweaksBack.{bringing}
use Rattle.std.proofs.Common.{◌≡◌, ◌+◌, ◌*◌, ◌^◌, ◌≤◌}
use Rattle.xc_dance.specs.inner.Tables.{Nodes, lent, lent_writes, IsRow, IsLinkRow}
use Rattle.xc_dance.proofs.WalkLemmas.{Following}
use Rattle.xc_dance.proofs.links.tweaks.bring_back.Given as goal

abbrev pub invariant-loop : goal.invariant-loop
invariant-loop l =
    let old : Nodes = lent l.fn.top l.fn.links l.color in
    record {
      walk : Following (bringing l.spans l.covered) old l.k l.x (lent l.top l.links l.color) l.p l.counter l.count;
      counted : lent_writes l.top l.links l.color ≡ lent_writes l.fn.top l.fn.links l.color + l.count;
      rows : IsRow l.fn.top l.top × IsLinkRow l.fn.links l.links;
      few : l.count ≤ (3 * 2 ^ 32 + 1) * l.counter;
    }
