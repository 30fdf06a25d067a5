-- The solution of a number, among those of what a key leaves.
-- No public contract rests on this file.
use Rattle.std.specs.Prelude.{ℕ, ◌<◌, ◌+◌, ◌∷◌, List, Option, Some, None, option_map, length, nat_lt, if◌then◌else◌}
use Rattle.xc_input.specs.Problem.{Puzzle, numbered_get}
use Rattle.xc_search.specs.declared.choice.Choice.{Choice}
use Rattle.xc_search.specs.Listing.{Residual, branch_count, branch_item, listing}
use Rattle.xc_count.specs.declared.taken.Taken.{Taken}
use Rattle.xc_count.specs.declared.plan.Plan.{Plan}
use Rattle.xc_count.specs.inner.Held.{left_by}
use Rattle.xc_count.specs.inner.Worth.{says}

-- what a key leaves whose first mark is that of rank 0
abbrev pub left_by_key : Puzzle → Plan → List ℕ → Residual
left_by_key p plan key = left_by p (says plan 0 key)

-- the item that it branches on, and how many branches there are
abbrev pub branch_at : Puzzle → Plan → List ℕ → Option (ℕ × ℕ)
branch_at p plan key =
    option_map (λ w. (w.item, branch_count (left_by_key p plan key) w)) (branch_item (left_by_key p plan key))

-- the solution of this number
abbrev pub solution_at : Puzzle → Plan → List ℕ → ℕ → Option (List Choice)
solution_at p plan key n = numbered_get (listing (left_by_key p plan key)) n

-- the solution of this number behind a branch, if there is a branch
abbrev pub behind_taken : Puzzle → Plan → Option Taken → ℕ → Option (List Choice)
behind_taken p plan None n = None
behind_taken p plan (Some b) n = option_map (λ m. b.choice ∷ m) (solution_at p plan b.key.items n)

-- the first of two items with the fewest branches
abbrev pub fewer : Option (ℕ × ℕ) → ℕ × ℕ → Option (ℕ × ℕ)
fewer None b = Some b
fewer (Some a) b = if nat_lt b.1 a.1 then Some b else Some a

-- how many items and options are left
abbrev pub size_left : Residual → ℕ
size_left r = length r.items + length r.options

-- a key leaves less than another
abbrev pub IsLess : Puzzle → Plan → List ℕ → List ℕ → Type 0
IsLess p plan a b = size_left (left_by_key p plan a) < size_left (left_by_key p plan b)
