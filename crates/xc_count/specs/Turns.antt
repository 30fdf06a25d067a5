-- What a sweep and a search that have turns came to.
-- Public contracts rest on this file: readers must believe it.
use Rattle.std.specs.Prelude.{ℕ, ◌≡◌, ◌<◌, length, option_map}
use Rattle.xc_input.specs.Problem.{Puzzle, numbered_get}
use Rattle.xc_search.specs.Cover.{members}
use Rattle.xc_count.specs.declared.counting.Counting.{Counting}
use Rattle.xc_count.specs.declared.counting.Counting.TheVariants.{Swept, Searched, GaveUp}
use Rattle.xc_count.specs.declared.finding.Finding.{Finding}
use Rattle.xc_count.specs.declared.finding.Finding.TheVariants.{Found, LeftAlone}

-- how many members the listing of a problem has, or a search of that problem, if the states may take some memory
abbrev pub CountsByTurns : Puzzle → ℕ → Counting → Type 0
CountsByTurns p bound (Swept n) = n ≡ length (members p)
CountsByTurns p bound (Searched n) = n ≡ length (members p)
CountsByTurns p bound (GaveUp search) = (search ≡ p) × (0 < bound)

-- the member of a number, none where there are fewer, or such a search
abbrev pub FindsByTurns : Puzzle → ℕ → ℕ → Finding → Type 0
FindsByTurns p n bound (Found found) = option_map (λ c. c.items) found ≡ numbered_get (members p) n
FindsByTurns p n bound (LeftAlone search) = (search ≡ p) × (0 < bound)
