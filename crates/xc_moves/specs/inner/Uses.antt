-- The uses of options, and where their nodes are.
-- No public contract rests on this file.
use Rattle.std.specs.Prelude.{ℕ, List, ◌==◌, Bool, ◌+◌, Option, Some, None, if◌then◌else◌, ◌<◌, ◌≡◌, ◌⊎◌, true, is_some}
use Rattle.std.specs.Prelude.{[], ◌∷◌, map}
use Rattle.std.specs.List.{list_any}
use Rattle.xc_input.specs.declared.problem.Use.{Use}
use Rattle.xc_input.specs.Problem.{Puzzle, colour_in, uses_of}
use Rattle.xc_moves.specs.Places.{spacer_place}

-- item i is used
abbrev pub has_use : List Use → ℕ → Bool
has_use us i = list_any (λ u. u.item == i) us

-- 0, or an option that holds item j
abbrev pub HoldsItem : Puzzle → ℕ → ℕ → Type 0
HoldsItem p j x = (x ≡ 0) ⊎ ((0 < x) × (is_some (colour_in (uses_of p x) j) ≡ true))

-- the place of the first node after the spacer after option o
abbrev pub start_at : Puzzle → ℕ → ℕ
start_at p o = spacer_place p o + 1

-- an option number as it is answered
abbrev pub named : ℕ → Option ℕ
named x = if x == 0 then None else Some x

-- the items of the uses before that of item i
abbrev pub before_use : ℕ → List Use → List ℕ
before_use i [] = []
before_use i (u ∷ us) = if u.item == i then [] else u.item ∷ before_use i us

-- the items of the uses after it
abbrev pub behind_use : ℕ → List Use → List ℕ
behind_use i [] = []
behind_use i (u ∷ us) = if u.item == i then map (λ v. v.item) us else behind_use i us
