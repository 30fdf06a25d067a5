-- What the tables of a search say of its decisions.
-- No public contract rests on this file.
use Rattle.std.specs.Prelude.{ℕ, ◌≡◌, ◌≤◌, List, [], ◌∷◌, Some, cond, is_some, length, slice_get, slice_index, sum_by}
use Rattle.xc_input.specs.declared.problem.Use.{Use}
use Rattle.xc_input.specs.Problem.{Puzzle, colour_in}
use Rattle.xc_input.specs.Cover.{times_held}
use Rattle.xc_least.specs.declared.steps.Step.{Step}
use Rattle.xc_least.specs.declared.decided.Decided.{Decided}
use Rattle.xc_least.specs.inner.Regions.{newest, taken_of}

-- the place of each option decided about is that of its step
abbrev pub ArePlaced : List ℕ → List Step → Type 0
ArePlaced place [] = Unit {0}
ArePlaced place (d ∷ ds) = (slice_get place d.option ≡ Some (length ds)) × ArePlaced place ds

-- each step has spent no more than the options taken up to it have
abbrev pub AreSpent : (ℕ → ℕ) → List Step → Type 0
AreSpent f [] = Unit {0}
AreSpent f (d ∷ ds) = (d.spent ≤ sum_by f (taken_of (d ∷ ds))) × AreSpent f ds

-- no item counts as held more often than it is
abbrev pub AreHeld : Puzzle → List ℕ → List ℕ → Type 0
AreHeld p held ts = (i : ℕ) → slice_index held i ≤ times_held p i ts

-- 1 where uses hold an item
abbrev pub once_if_held : List Use → ℕ → ℕ
once_if_held us i = cond (is_some (colour_in us i)) 1 0

-- tables of places by option and of counts by item are those of these steps
pub record AreTablesOf (p : Puzzle) (f : ℕ → ℕ) (places counts : List ℕ) (ss : List Step) : Type 0 where
  pub placed : ArePlaced places (newest ss)
  pub spent : AreSpent f (newest ss)
  pub held : AreHeld p counts (taken_of (newest ss))

-- the tables of a search are those of its steps
abbrev pub HasItsTables : Puzzle → (ℕ → ℕ) → Decided → Type 0
HasItsTables p f d = AreTablesOf p f d.place.items d.held.items d.steps.items
