-- What the states of a sweep are worth.
-- No public contract rests on this file.
use Rattle.std.specs.Prelude.{ℕ, ◌≡◌, ◌*◌, Bool, true, List, is_some, All, sum_by, take, if◌then◌else◌}
use Rattle.std.specs.List.{list_all}
use Rattle.xc_input.specs.Problem.{Puzzle, uses_of}
use Rattle.xc_count.specs.declared.layer.State.{State}
use Rattle.xc_count.specs.declared.plan.Plan.{Plan}
use Rattle.xc_count.specs.inner.Held.{Held, agree, below, holding_uses}
use Rattle.xc_count.specs.inner.Keys.{held_in}

-- a state of a count, which is worth as many as there are ways to it
abbrev pub CountState : Type 0
CountState = State ℕ

-- the states, each as often as there are ways to it, by what a key is worth
abbrev pub worth_by : (List ℕ → ℕ) → List CountState → ℕ
worth_by f ss = sum_by (λ s. s.worth * f s.key.items) ss

-- what a key says whose first mark is that of a rank
abbrev pub says : Plan → ℕ → List ℕ → Held
says plan from key = held_in plan.ranking.ranks.items from key

-- how many covers there are below a key
abbrev pub key_below : Puzzle → Plan → ℕ → List ℕ → ℕ
key_below p plan from key = below p (says plan from key)

-- and below the states, each as often as there are ways to it
abbrev pub worth : Puzzle → Plan → ℕ → List CountState → ℕ
worth p plan from ss = worth_by (key_below p plan from) ss

-- a key says that the first k items of the order are held
abbrev pub holds_first : Plan → ℕ → ℕ → List ℕ → Bool
holds_first plan k from key = list_all (λ i. is_some (says plan from key i)) (take k plan.order.items)

-- each state's key passes a test
abbrev pub EachKey : (List ℕ → Bool) → List CountState → Type 0
EachKey q ss = All (λ s. q s.key.items ≡ true) ss

-- how many covers there are with option o, if it fits
abbrev pub with_number : Puzzle → Held → ℕ → ℕ
with_number p s o = if agree s (uses_of p o) then below p (holding_uses (uses_of p o) s) else 0
