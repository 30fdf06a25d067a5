-- What covers cost, and which cost least.
-- Public contracts rest on this file: readers must believe it.
use Rattle.std.specs.Prelude.{ℕ, ℤ, pos, ◌+ℤ◌, ◌≤ℤ◌, List, [], ◌∷◌, unwrap_or}
use Rattle.xc_input.specs.Problem.{Puzzle, numbered_get}
use Rattle.xc_input.specs.Cover.{IsCover}

-- what option o costs, by the costs of all options in file order
abbrev pub cost_at : List ℤ → ℕ → ℤ
cost_at costs o = unwrap_or (numbered_get costs o) (pos 0)

-- what options cost together
abbrev pub total_cost : List ℤ → List ℕ → ℤ
total_cost costs [] = pos 0
total_cost costs (o ∷ s) = cost_at costs o +ℤ total_cost costs s

-- a cover, than which no cover costs less
pub record IsLeast (p : Puzzle) (costs : List ℤ) (s : List ℕ) : Type 0 where
  pub cover : IsCover p s
  pub least : (t : List ℕ) → IsCover p t → total_cost costs s ≤ℤ total_cost costs t
