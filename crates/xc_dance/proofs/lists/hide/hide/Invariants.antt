use Rattle.std.proofs.Common.{◌≡◌, take}
use Rattle.xc_dance.proofs.LosingLists.{hidden_from}
use Rattle.xc_dance.proofs.lists.hide.hide.Given as goal

abbrev pub invariant-loop-u : goal.invariant-loop-u
invariant-loop-u l = record {
  lists : l.live.lists ≡ hidden_from l.standing.trail l.item (take l.u-index l.u-items) l.option 1 l.initial.live.lists;
  marked : l.live.marked ≡ l.initial.live.marked;
  room : l.live.room ≡ l.initial.live.room;
}
