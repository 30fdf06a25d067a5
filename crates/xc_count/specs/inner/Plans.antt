-- What a sweep goes by.
-- No public contract rests on this file.
use Rattle.std.specs.Prelude.{ℕ, ◌≡◌, ◌≢◌, ◌<◌, ◌≤◌, ◌+◌, List, [], ◌∷◌, Some, true, All, AllPairs, Contains}
use Rattle.std.specs.Prelude.{length, map, take, is_some, slice_index, if◌then◌else◌}
use Rattle.xc_input.specs.Problem.{Puzzle, IsPrimary, IsItem, item_count, numbered_get, numbered_options, holding}
use Rattle.xc_input.specs.Problem.{uses_of, colour_in}
use Rattle.xc_input.specs.declared.problem.Use.{Use}
use Rattle.xc_count.specs.declared.plan.Plan.{Plan}
use Rattle.xc_count.specs.declared.plan.Step.{Step}
use Rattle.xc_count.specs.inner.Keys.{rank_of}

-- the options that hold item i, in order
abbrev pub options_with : Puzzle → ℕ → List ℕ
options_with p i = map (λ x. x.number) (holding i (numbered_options p))

-- option o, if these uses hold item i
abbrev pub if_held : List Use → ℕ → ℕ → List ℕ
if_held us i o = if is_some (colour_in us i) then o ∷ [] else []

-- the lists of the items have their options
abbrev pub AreHolders : Puzzle → List (List ℕ) → Type 0
AreHolders p lists = (i : ℕ) → IsItem p i → numbered_get lists i ≡ Some (options_with p i)

-- each of n items has a rank, and is the item of it
abbrev pub IsRanking : ℕ → List ℕ → List ℕ → Type 0
IsRanking n ranks items =
    (length ranks ≡ n) × ((i : ℕ) → 1 ≤ i → i ≤ n → slice_index items (rank_of ranks i) ≡ i)

-- an order has each primary item once, and no other
pub record IsOrder (p : Puzzle) (order : List ℕ) : Type 0 where
  pub primary : All (IsPrimary p) order
  pub once : AllPairs (λ a b. a ≢ b) order
  pub each : (i : ℕ) → IsPrimary p i → Contains order i

-- option o holds one of these items
abbrev pub HoldsPast : Puzzle → List ℕ → ℕ → Type 0
HoldsPast p past o = (j : ℕ) × Contains past j × (is_some (colour_in (uses_of p o) j) ≡ true)

-- No option can hold item i any more once these items are held: each that would holds one of them. And if it is primary
-- it is one of them.
pub record IsOver (p : Puzzle) (past : List ℕ) (i : ℕ) : Type 0 where
  pub held : IsPrimary p i → Contains past i
  pub options : All (HoldsPast p past) (options_with p i)

-- once the item at a place of the order is held, those of ranks below the window are over
abbrev pub AreWindows : Puzzle → List ℕ → List ℕ → List ℕ → Type 0
AreWindows p order ranks windows = (k i : ℕ) → k < length windows → IsItem p i
    → rank_of ranks i < slice_index windows k → IsOver p (take (k + 1) order) i

pub record IsPlan (p : Puzzle) (plan : Plan) : Type 0 where
  pub order : IsOrder p plan.order.items
  pub holders : AreHolders p (map (λ l. l.items) plan.holders.items)
  pub ranks : IsRanking (item_count p) plan.ranking.ranks.items plan.ranking.items.items
  pub windows : AreWindows p plan.order.items plan.ranking.ranks.items plan.windows.items

-- a step of a sweep: the ranks that it leaves are of items that are over
pub record IsStep (p : Puzzle) (plan : Plan) (step : Step) : Type 0 where
  pub within : step.place < length plan.order.items
  pub rises : step.from ≤ step.next
  pub over : (i : ℕ) → IsItem p i → step.from ≤ rank_of plan.ranking.ranks.items i
      → rank_of plan.ranking.ranks.items i < step.next → IsOver p (take (step.place + 1) plan.order.items) i
