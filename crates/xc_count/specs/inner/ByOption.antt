-- Covers counted option by option.
-- No public contract rests on this file.
use Rattle.std.specs.Prelude.{ℕ, ◌≡◌, ◌≢◌, ◌<◌, ◌≤◌, ◌-◌, ◌⊎◌, ◌+◌, ◌==◌, ◌&&◌, ◌||◌, Bool, List, []}
use Rattle.std.specs.Prelude.{◌∷◌, ◌++◌, All, AllPairs, Contains}
use Rattle.std.specs.Prelude.{nat_lt, nat_le, map, length, is_some, count_by, slice_index, if◌then◌else◌}
use Rattle.std.specs.List.{list_all, enumerate_from}
use Rattle.xc_input.specs.declared.problem.Use.{Use}
use Rattle.xc_input.specs.declared.problem.Bounds.{Bounds}
use Rattle.xc_input.specs.Problem.{Puzzle, IsOption, IsPrimary, primary_count, low_at, high_at, uses_of, colour_in}

-- for each item how often it is held, if it is primary, and else 0 where it is free, and one more than the colour for
-- which it is held
abbrev pub Marks : Type 0
Marks = ℕ → ℕ

-- the item of a use may be held by it
abbrev pub may_hold : Puzzle → Marks → Use → Bool
may_hold p s u = if nat_le u.item (primary_count p) then nat_lt (s u.item) (high_at p u.item)
    else (s u.item == 0 || (nat_lt 0 u.colour && s u.item == u.colour + 1))

-- the items of all these uses may be held by them
abbrev pub may_take : Puzzle → Marks → List Use → Bool
may_take p s us = list_all (λ u. may_hold p s u) us

-- the mark of a use's item once it is held by it
abbrev pub mark_after : Puzzle → ℕ → Use → ℕ
mark_after p m u = if nat_le u.item (primary_count p) then m + 1 else u.colour + 1

-- once these uses are taken
abbrev pub taking : Puzzle → List Use → Marks → Marks
taking p [] s i = s i
taking p (u ∷ us) s i = if u.item == i then mark_after p (s i) u else taking p us s i

-- each primary item is held as often as its lower bound says
abbrev pub all_met : Puzzle → Marks → Bool
all_met p s = list_all (λ (ib : ℕ × Bounds). nat_le ib.1.low (s ib.0)) (enumerate_from 1 p.bounds)

-- in how many ways some of these options may be taken so that each primary item's bounds are met
abbrev pub ways : Puzzle → List ℕ → Marks → ℕ
ways p [] s = if all_met p s then 1 else 0
ways p (o ∷ os) s =
    ways p os s + (if may_take p s (uses_of p o) then ways p os (taking p (uses_of p o) s) else 0)

-- the sets of options that are taken so
abbrev pub sets : Puzzle → List ℕ → Marks → List (List ℕ)
sets p [] s = if all_met p s then [] ∷ [] else []
sets p (o ∷ os) s = sets p os s
    ++ (if may_take p s (uses_of p o) then map (λ t. o ∷ t) (sets p os (taking p (uses_of p o) s)) else [])

-- the marks that a key tells: that of item i is at place i
abbrev pub marks_in : List ℕ → Marks
marks_in key i = slice_index key i

-- in how many ways they may be taken from a key on
abbrev pub ways_from : Puzzle → List ℕ → List ℕ → ℕ
ways_from p os key = ways p os (marks_in key)

-- and once these uses are taken, if they may be
abbrev pub ways_taken : Puzzle → List ℕ → List Use → List ℕ → ℕ
ways_taken p os us key = if may_take p (marks_in key) us then ways p os (taking p us (marks_in key)) else 0

-- how many of these options hold item i
abbrev pub holders_among : Puzzle → List ℕ → ℕ → ℕ
holders_among p os i = count_by (λ o. is_some (colour_in (uses_of p o) i)) os

-- at most so many of them hold each item
abbrev pub AtMost : Puzzle → List ℕ → List ℕ → Type 0
AtMost p os left = (i : ℕ) → holders_among p os i ≤ slice_index left i

-- two marks of item i come to the same if at most so many options may hold it still: they are equal, or both meet its
-- bounds whatever is taken, or it is secondary and no option holds it
abbrev pub ComeToSame : Puzzle → ℕ → ℕ → ℕ → ℕ → Type 0
ComeToSame p i left m n = (m ≡ n)
    ⊎ ((i ≤ primary_count p) × (low_at p i ≤ m) × (m + left ≤ high_at p i) × (low_at p i ≤ n)
    × (n + left ≤ high_at p i))
    ⊎ ((primary_count p < i) × (left ≡ 0))

-- primary item i of this mark can't be held as often as it must be
abbrev pub IsLost : Puzzle → ℕ → ℕ → ℕ → Type 0
IsLost p i left m = IsPrimary p i × (m + left < low_at p i)

-- options in an order, no two the same; a mark that isn't 0 tells which they are
pub record AreOnce (order seen : List ℕ) : Type 0 where
  pub known : All (λ o. (1 ≤ o) × (o ≤ length seen)) order
  pub distinct : AllPairs (λ a b. a ≢ b) order
  pub listed : (o : ℕ) → 1 ≤ o → o ≤ length seen → slice_index seen (o - 1) ≢ 0 → Contains order o
  pub unlisted : (o : ℕ) → 1 ≤ o → o ≤ length seen → slice_index seen (o - 1) ≡ 0 → Contains order o → ⊥

-- each option is one of these, once
pub record IsEachOnce (p : Puzzle) (os : List ℕ) : Type 0 where
  pub known : All (IsOption p) os
  pub distinct : AllPairs (λ a b. a ≢ b) os
  pub each : (o : ℕ) → IsOption p o → Contains os o
