-- What a search stands for.
-- Public contracts rest on this file: readers must believe it.
use Rattle.std.specs.Prelude.{ℕ, zero, suc, ◌+◌, ◌*◌, ◌≤◌, Bool, List, [], ◌∷◌, length}
use Rattle.xc_search.specs.declared.choice.Choice.{Choice}
use Rattle.xc_input.specs.Problem.{Puzzle}
use Rattle.xc_search.specs.Room.{room_for}

-- A search of this problem: the members still to come, the one reached last, as long as it is shown, the ends of
-- its tree still to come, how many moves the trail has room for, and how many were ever made on its dance.
pub record Outlook : Type 0 where
  pub puzzle : Puzzle
  pub to_come : List (List Choice)
  pub shown : List Choice
  pub ahead : List Bool
  pub room : ℕ
  pub made : ℕ

-- From s to n it made, for each end that it went over, at most as many moves as can be on the trail at once.
abbrev pub MakesFew : Outlook → Outlook → Type 0
MakesFew s n = n.made + room_for s.puzzle * length n.ahead ≤ s.made + room_for s.puzzle * length s.ahead

-- what is shown after n more of these members: the last of them, or none where there are fewer
abbrev pub shown_after : ℕ → List (List Choice) → List Choice → List Choice
shown_after zero ms shown = shown
shown_after (suc n) [] shown = []
shown_after (suc n) (m ∷ ms) shown = shown_after n ms m
