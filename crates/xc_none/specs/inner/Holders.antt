-- The options that hold an item.
-- No public contract rests on this file.
use Rattle.std.specs.Prelude.{ℕ, ◌≡◌, ◌<◌, ◌≤◌, ◌-◌, true, List, Some, slice_get, slice_index, length, All}
use Rattle.std.specs.Prelude.{Contains, Vec}
use Rattle.std.specs.declared.alloc.Global.{Global}
use Rattle.xc_input.specs.Problem.{Puzzle, IsOption, option_count, colour_in, uses_of}
use Rattle.xc_none.specs.Meanings.{is_holder, place_of}

-- an option of the problem that holds item i
abbrev pub IsHolder : Puzzle → ℕ → ℕ → Type 0
IsHolder p i o = IsOption p o × (is_holder p i o ≡ true)

-- these are options that hold item i, and all of those up to number t
pub record AreHoldersUpTo (p : Puzzle) (i t : ℕ) (os : List ℕ) : Type 0 where
  pub sound : All (IsHolder p i) os
  pub whole : (o : ℕ) → IsHolder p i o → o ≤ t → Contains os o

-- these are the options that hold item i
abbrev pub AreOptionsOf : Puzzle → ℕ → List ℕ → Type 0
AreOptionsOf p i os = AreHoldersUpTo p i (option_count p) os

-- each of these lists has the options up to number t that hold the item of its place
abbrev pub AreListed : Puzzle → ℕ → List (Vec ℕ Global) → Type 0
AreListed p t lists = (i : ℕ) (l : Vec ℕ Global) → 1 ≤ i → slice_get lists (i - 1) ≡ Some l
    → AreHoldersUpTo p i t l.items

-- options in rising order
abbrev pub AreRising : List ℕ → Type 0
AreRising os = (j k : ℕ) → j < k → k < length os → slice_index os j < slice_index os k

-- behind number t, no option up to o but o itself holds item i
abbrev pub IsNextHolder : Puzzle → ℕ → ℕ → ℕ → Type 0
IsNextHolder p i t o = (x : ℕ) → IsHolder p i x → t < x → x ≤ o → x ≡ o

-- option o gives item i a colour, and that puts it at place r
abbrev pub IsPlaceOf : Puzzle → ℕ → ℕ → ℕ → Type 0
IsPlaceOf p i o r = (colour : ℕ) × (colour_in (uses_of p o) i ≡ Some colour) × (r ≡ place_of p o colour)
