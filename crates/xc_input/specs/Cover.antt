-- Covers, by the problem alone.
-- Public contracts rest on this file: readers must believe it.
use Rattle.std.specs.Prelude.{ℕ, ◌<◌, ◌≤◌, ◌≡◌, ◌≢◌, List, Some, is_some, All, AllPairs, Contains, count_by}
use Rattle.xc_input.specs.declared.problem.Bounds.{Bounds}
use Rattle.xc_input.specs.Problem.{Puzzle, bounds_at, uses_of, colour_in, IsSecondary, IsOption}

-- how many of these options hold item i
abbrev pub times_held : Puzzle → ℕ → List ℕ → ℕ
times_held p i s = count_by (λ o. is_some (colour_in (uses_of p o) i)) s

-- A set of option numbers, as a list without repetition, is a cover: each primary item is held as often as its bounds
-- say, and two options that hold the same secondary item agree on its colour, which isn't 0.
pub record IsCover (p : Puzzle) (s : List ℕ) : Type 0 where
  pub known : All (IsOption p) s
  pub distinct : AllPairs (λ a b. a ≢ b) s
  pub within : (i : ℕ) (b : Bounds) → bounds_at p i ≡ Some b →
      (b.low ≤ times_held p i s) × (times_held p i s ≤ b.high)
  pub agree : (a b i c d : ℕ) → Contains s a → Contains s b → a ≢ b → IsSecondary p i →
      colour_in (uses_of p a) i ≡ Some c → colour_in (uses_of p b) i ≡ Some d → (c ≡ d) × (0 < c)
