use Rattle.std.proofs.Common.{◌≡◌, ◌+◌, length, reverse, sum_by, vec_capacity}
use Rattle.xc_dance.specs.inner.Lists.{numbers_of, rooms_of, restored, still_taken, Fits}
use Rattle.xc_dance.proofs.lists.undo_log.restore.Given as goal

abbrev pub invariant-loop-taken : goal.invariant-loop-taken
invariant-loop-taken l = record {
  lists : restored l.mark (reverse l.taken.items) (numbers_of l.lists.items) ≡ restored l.mark
      (reverse l.initial.taken.items) (numbers_of l.initial.lists.items);
  taken : still_taken l.mark (reverse l.taken.items) ≡ still_taken l.mark (reverse l.initial.taken.items);
  fits : Fits (rooms_of l.lists.items) (reverse l.taken.items) (numbers_of l.lists.items);
  room : vec_capacity l.taken ≡ vec_capacity l.initial.taken;
  count : length l.taken.items + sum_by length (numbers_of l.lists.items) ≡ length l.initial.taken.items + sum_by length
      (numbers_of l.initial.lists.items);
}

abbrev pub decreases-loop-taken : goal.decreases-loop-taken
decreases-loop-taken l = length l.taken.items
