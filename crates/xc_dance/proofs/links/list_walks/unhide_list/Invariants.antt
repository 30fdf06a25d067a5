use Rattle.xc_dance.proofs.OneList.{up_walk}
use Rattle.std.proofs.Common.{◌≡◌, false, ◌+◌, ◌*◌, ◌^◌, ◌≤◌}
use Rattle.std.specs.Prelude.{slice_index}
use Rattle.xc_dance.specs.inner.Tables.{Nodes, values, lent_all, all_writes, IsRow, IsLinkRow}
use Rattle.xc_dance.specs.inner.Walks.{IsUnmarked}
use Rattle.xc_dance.proofs.WalkLemmas.{Following}
use Rattle.xc_dance.proofs.links.list_walks.unhide_list.Given as goal

abbrev pub invariant-loop : goal.invariant-loop
invariant-loop l =
    let old : Nodes = lent_all l.fn.top l.fn.links l.fn.color in
    record {
      walk : Following (up_walk l.spans l.keep) old (slice_index old.top l.i) (slice_index old.ulink l.i)
          (lent_all l.top l.links l.color) l.p l.counter l.count;
      unmarked : l.marks ≡ false → IsUnmarked l.spans (values l.color.cells.now);
      counted : all_writes l.top l.links l.color ≡ all_writes l.fn.top l.fn.links l.fn.color + l.count;
      rows : IsRow l.fn.top l.top × IsLinkRow l.fn.links l.links × IsRow l.fn.color l.color;
      few : l.count ≤ 3 * 2 ^ 32 * l.counter;
    }
