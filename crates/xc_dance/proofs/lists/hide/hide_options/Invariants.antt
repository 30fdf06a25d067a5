use Rattle.std.proofs.Common.{◌≡◌, ◌-◌, take, filter, not}
use Rattle.xc_dance.specs.inner.Lists.{list_at, lose, keeps_colour}
use Rattle.xc_dance.proofs.lists.hide.hide_options.Given as goal

abbrev pub invariant-loop-at : goal.invariant-loop-at
invariant-loop-at l = record {
  lists : l.live.lists ≡ lose l.standing.trail l.item
      (filter (λ o. not (keeps_colour l.standing.puzzle l.item l.kept o))
      (take l.at (list_at l.initial.live.lists (l.item - 1)))) l.initial.live.lists;
  marked : l.live.marked ≡ l.initial.live.marked;
  room : l.live.room ≡ l.initial.live.room;
}
