-- The rows at which a search of a span may be.
-- Public contracts rest on this file: readers must believe it.
use Rattle.std.specs.Prelude.{ℕ, zero, suc, ◌+◌, ◌≤◌, ◌≡◌, true, List, [], ◌∷◌, length, sum_by, Option, Some, None}
use Rattle.xc_input.specs.Problem.{Puzzle}
use Rattle.xc_search.specs.Listing.{Wanted, Residual, whole, branch_item, branches_of}
use Rattle.xc_search.specs.Spans.{precedes}
use Rattle.xc_search.specs.InSpan.{branches_left, left_by_number}

-- A row of the search's tree, below what is left: each number is that of a branch of its level, from 1 on. A last 0
-- may be right after a member, where no item is left.
abbrev pub IsRowOf : Residual → List ℕ → Type 0
IsRowOf r [] = Unit {0}
IsRowOf r (zero ∷ row) = (branch_item r ≡ None) × (row ≡ [])
IsRowOf r (suc k ∷ row) = (suc k ≤ length (branches_left r)) × IsRowOf (left_by_number (suc k) r) row

-- these are rows of the tree, each after the one in front of it
abbrev pub RowsGoOn : Puzzle → List ℕ → List (List ℕ) → Type 0
RowsGoOn p from [] = Unit {0}
RowsGoOn p from (next ∷ rows) = IsRowOf (whole p) next × (precedes from next ≡ true) × RowsGoOn p next rows

-- One level of the tree, over the numbers of rows of what is left: with no item left a member's row and the one right
-- after it; else its own row and those of the branches of the branch item
abbrev pub level_rows : (Residual → ℕ) → Option Wanted → Residual → ℕ
level_rows rest None r = 2
level_rows rest (Some w) r = 1 + sum_by (λ b. rest b.next) (branches_of r w)

-- the number of rows, by levels to a depth
unfoldable pub rows_to : ℕ → Residual → ℕ
rows_to zero r = 2
rows_to (suc depth) r = level_rows (rows_to depth) (branch_item r) r

-- how many rows the tree of what is left has, to the depth of its listing
unfoldable pub row_count : Residual → ℕ
row_count r = rows_to (length r.items + length r.options) r
