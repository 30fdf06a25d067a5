-- What a search of a span stands for.
-- Public contracts rest on this file: readers must believe it.
use Rattle.std.specs.Prelude.{ℕ, ◌+◌, ◌*◌, ◌-◌, ◌≤◌, List, [], ◌∷◌, length, Option, Some, None, unwrap_or, option_map}
use Rattle.std.specs.Prelude.{slice_get}
use Rattle.xc_search.specs.declared.choice.Choice.{Choice}
use Rattle.xc_input.specs.Problem.{Puzzle}
use Rattle.xc_search.specs.Listing.{Residual, Branch, branch_item, branches_of}
use Rattle.xc_search.specs.Room.{room_for}
use Rattle.xc_search.specs.Spans.{between}

-- A search of a span of this problem's listing: the row from which on its members are left, if any are, the row before
-- which it ends, if not at the listing's end, the member that it is at, as long as it is, how many moves the
-- trail has room for, how many were ever made on its dance, and how many branches it ever began.
pub record InSpan : Type 0 where
  pub puzzle : Puzzle
  pub row : Option (List ℕ)
  pub until : Option (List ℕ)
  pub shown : List Choice
  pub room : ℕ
  pub made : ℕ
  pub begun : ℕ

-- From s to n it made, for each branch that it began and two more, at most as many moves as can be on the trail at
-- once.
abbrev pub MovesFew : InSpan → InSpan → Type 0
MovesFew s n = n.made + room_for s.puzzle * s.begun ≤ s.made + room_for s.puzzle * (n.begun + 2)

-- the members that are left
abbrev pub left_of : InSpan → List (List Choice)
left_of s = unwrap_or (option_map (λ row. between s.puzzle row s.until) s.row) []

-- a row, or else the end of a span
abbrev pub row_or_end : Option (List ℕ) → Option (List ℕ) → Option (List ℕ)
row_or_end None until = until
row_or_end (Some row) until = Some row

-- up to which row it went
abbrev pub reached : InSpan → Option (List ℕ)
reached s = row_or_end s.row s.until

-- the branches of what is left: those of its branch item
abbrev pub branches_left : Residual → List Branch
branches_left r = unwrap_or (option_map (branches_of r) (branch_item r)) []

-- what the k-th branch leaves, where there is one
abbrev pub left_by_number : ℕ → Residual → Residual
left_by_number k r = unwrap_or (option_map (λ b. b.next) (slice_get (branches_left r) (k - 1))) r

-- how many branches each level of a row has
abbrev pub branches_along : Residual → List ℕ → List ℕ
branches_along r [] = []
branches_along r (k ∷ row) = length (branches_left r) ∷ branches_along (left_by_number k r) row
