-- A search that has turns beside a sweep.
-- No public contract rests on this file.
use Rattle.std.specs.Prelude.{ℕ, ◌≡◌, ◌<◌, ◌^◌, ◌-◌, ◌⊎◌}
use Rattle.xc_input.specs.Problem.{Puzzle}

-- its problem, how many branches it has begun, how many covers it has passed, and how much work the sweep has until its
-- next turn
pub record Searching : Type 0 where
  pub puzzle : Puzzle
  pub begun : ℕ
  pub passed : ℕ
  pub left : ℕ

-- it has begun a branch, unless it has passed as many covers as it counts
abbrev pub HadTurn : Searching → Searching → Type 0
HadTurn old new = (old.begun < new.begun) ⊎ (new.passed ≡ 2 ^ 64 - 1)
