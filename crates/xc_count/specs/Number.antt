-- How many covers a problem has.
-- Public contracts rest on this file: readers must believe it.
use Rattle.std.specs.Prelude.{ℕ, ◌≡◌, List, All, AllPairs, Contains, length}
use Rattle.xc_input.specs.Problem.{Puzzle}
use Rattle.xc_input.specs.Cover.{IsCover}
use Rattle.xc_search.specs.Cover.{SameSet}

-- sets of options that are covers, no two of them the same, and every cover is one of them
pub record AreTheCovers (p : Puzzle) (sets : List (List ℕ)) : Type 0 where
  pub covers : All (IsCover p) sets
  pub different : AllPairs (λ a b. SameSet a b → ⊥) sets
  pub every : (s : List ℕ) → IsCover p s → (t : List ℕ) × Contains sets t × SameSet s t

-- a problem has so many covers
abbrev pub HasCovers : Puzzle → ℕ → Type 0
HasCovers p n = (sets : List (List ℕ)) × AreTheCovers p sets × (length sets ≡ n)
