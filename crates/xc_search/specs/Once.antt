-- Problems whose primary items are each to be held exactly once.
-- Public contracts rest on this file: readers must believe it.
use Rattle.std.specs.Prelude.{ℕ, ◌≡◌}
use Rattle.xc_input.specs.Problem.{Puzzle, IsPrimary, low_at, high_at}

-- each primary item is to be held exactly once
abbrev pub IsOnce : Puzzle → Type 0
IsOnce p = (i : ℕ) → IsPrimary p i → (low_at p i ≡ 1) × (high_at p i ≡ 1)
