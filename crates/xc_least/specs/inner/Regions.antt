-- The regions of a search: what covers are as it has decided, and which are still to come. Steps stand here with the
-- newest first.
-- No public contract rests on this file.
use Rattle.std.specs.Prelude.{ℕ, ◌≡◌, ◌<◌, ◌≤◌, ◌⊎◌, ◌-◌, Bool, true, false, List, [], ◌∷◌, if◌then◌else◌, reverse}
use Rattle.std.specs.Prelude.{slice_index, sum_by, ◌==◌}
use Rattle.std.specs.List.{list_any}
use Rattle.xc_input.specs.Problem.{Puzzle}
use Rattle.xc_input.specs.Cover.{IsCover}
use Rattle.xc_least.specs.declared.steps.Step.{Step}

-- whether option o is one of these
abbrev pub includes : List ℕ → ℕ → Bool
includes s o = list_any (λ a. a == o) s

-- a set of options is as was decided
abbrev pub IsAsDecided : List Step → List ℕ → Type 0
IsAsDecided [] s = Unit {0}
IsAsDecided (d ∷ ds) s = (includes s d.option ≡ d.taken) × IsAsDecided ds s

-- it is as was decided up to an option that was taken, and lacks that one
abbrev pub IsTurned : List Step → List ℕ → Type 0
IsTurned [] s = ⊥
IsTurned (d ∷ ds) s = ((d.taken ≡ true) × (includes s d.option ≡ false) × IsAsDecided ds s) ⊎ IsTurned ds s

-- it is still to be looked at
abbrev pub Remains : List Step → List ℕ → Type 0
Remains ds s = IsAsDecided ds s ⊎ IsTurned ds s

-- the options that were taken
abbrev pub taken_of : List Step → List ℕ
taken_of [] = []
taken_of (d ∷ ds) = if d.taken then d.option ∷ taken_of ds else taken_of ds

-- the steps of a search, the newest first
abbrev pub newest : List Step → List Step
newest ss = reverse ss

-- the surplus of option o, by the surpluses of all options in file order
abbrev pub surplus_at : List ℕ → ℕ → ℕ
surplus_at fs o = slice_index fs (o - 1)

-- no cover as was decided has a surplus below the gap
abbrev pub IsCut : Puzzle → (ℕ → ℕ) → ℕ → List Step → Type 0
IsCut p f gap ds = (s : List ℕ) → IsCover p s → IsAsDecided ds s → gap ≤ sum_by f s

-- no cover as was decided with a surplus below the gap has option o
abbrev pub IsExcluded : Puzzle → (ℕ → ℕ) → ℕ → List Step → ℕ → Type 0
IsExcluded p f gap ds o = (s : List ℕ) → IsCover p s → IsAsDecided ds s → sum_by f s < gap → includes s o ≡ false

-- no cover as was decided has option o, if that wasn't taken
abbrev pub IsBarred : Puzzle → List Step → ℕ → Type 0
IsBarred p ds o = (s : List ℕ) → IsCover p s → IsAsDecided ds s
    → includes (taken_of ds) o ≡ false → includes s o ≡ false
