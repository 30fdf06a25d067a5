-- What keys say.
-- No public contract rests on this file.
use Rattle.std.specs.Prelude.{ℕ, suc, ◌-◌, List, Option, Some, None, slice_get, slice_index, nat_lt, if◌then◌else◌}
use Rattle.xc_count.specs.inner.Held.{Held}

-- what a mark of a key says of its item: 0 that it is free, and else one more than the colour for which it is held
abbrev pub mark_says : Option ℕ → Option ℕ
mark_says (Some (suc c)) = Some c
mark_says _ = None

-- the rank of item i
abbrev pub rank_of : List ℕ → ℕ → ℕ
rank_of ranks i = slice_index ranks (i - 1)

-- What a key says whose first mark is that of a rank: the items before it were given up, and those after the last mark
-- are free.
abbrev pub held_in : List ℕ → ℕ → List ℕ → Held
held_in ranks from key i =
    if nat_lt (rank_of ranks i) from then Some 0 else mark_says (slice_get key (rank_of ranks i - from))
