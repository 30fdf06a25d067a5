use Rattle.std.proofs.Common.{◌≡◌, ℕ, List, ◌++◌, map, length}
use Rattle.xc_search.specs.declared.level.Level.{Level}
use Rattle.xc_search.specs.Spans.{precedes}
use Rattle.xc_search.proofs.rows.place_of.Given as goal

-- what is still to be compared decides
abbrev pub invariant-loop-below : goal.invariant-loop-below
invariant-loop-below l = record {
  here : precedes (map (λ (v : Level). v.begun) l.levels) l.row
      ≡ precedes (map (λ (v : Level). v.begun) l.below) l.behind;
  longer : (x : List ℕ) → precedes (map (λ (v : Level). v.begun) l.levels ++ x) l.row
      ≡ precedes (map (λ (v : Level). v.begun) l.below ++ x) l.behind;
}

abbrev pub decreases-loop-below : goal.decreases-loop-below
decreases-loop-below l = length l.below
