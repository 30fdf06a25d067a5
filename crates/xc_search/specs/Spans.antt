-- Spans of a listing: its members from one row of numbers on and before another.
-- Public contracts rest on this file: readers must believe it.
use Rattle.std.specs.Prelude.{ℕ, ◌≡◌, Bool, true, false, not, ◌&&◌, ◌||◌, ◌==◌, nat_lt, List, [], ◌∷◌, ◌++◌, map}
use Rattle.std.specs.Prelude.{filter}
use Rattle.std.specs.Prelude.{Option, Some, None}
use Rattle.xc_search.specs.declared.choice.Choice.{Choice}
use Rattle.xc_input.specs.Problem.{Puzzle}
use Rattle.xc_search.specs.Cover.{members}

-- the row of a member: the numbers of its branches, from the first level down
abbrev pub row_of : List Choice → List ℕ
row_of m = map (λ c. c.k) m

-- number by number, and a row that is the beginning of another comes first
abbrev pub precedes : List ℕ → List ℕ → Bool
precedes a [] = false
precedes [] (y ∷ b) = true
precedes (x ∷ a) (y ∷ b) = nat_lt x y || (x == y && precedes a b)

-- a row is before the end of a span; no end is that of the listing
abbrev pub is_before : Option (List ℕ) → List ℕ → Bool
is_before None a = true
is_before (Some b) a = precedes a b

-- the members from one row on and before another, each row with or without a node of the search's tree
abbrev pub between : Puzzle → List ℕ → Option (List ℕ) → List (List Choice)
between p from until = filter (λ m. not (precedes (row_of m) from) && is_before until (row_of m)) (members p)

-- the spans from one row to the next of these, and then to the end
abbrev pub spans_from : Puzzle → List ℕ → List (List ℕ) → List (List Choice)
spans_from p from [] = between p from None
spans_from p from (next ∷ rows) = between p from (Some next) ++ spans_from p next rows

-- none of these rows comes before the one in front of it
abbrev pub RowsRise : List ℕ → List (List ℕ) → Type 0
RowsRise from [] = Unit {0}
RowsRise from (next ∷ rows) = (precedes next from ≡ false) × RowsRise next rows
