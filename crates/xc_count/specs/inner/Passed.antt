-- What the states of a layer pass on to the next, and what each option has of the covers there.
-- No public contract rests on this file.
use Rattle.std.specs.Prelude.{ℕ, ◌≡◌, ◌+◌, ◌==◌, List, length, map, is_some, sum_by, slice_index, if◌then◌else◌}
use Rattle.xc_input.specs.Problem.{Puzzle, uses_of}
use Rattle.xc_search.specs.Listing.{Residual}
use Rattle.xc_count.specs.declared.kept.Ahead.{Ahead}
use Rattle.xc_count.specs.declared.kept.Kept.{Kept}
use Rattle.xc_count.specs.inner.Worth.{CountState}
use Rattle.xc_count.specs.declared.plan.Plan.{Plan}
use Rattle.xc_count.specs.declared.plan.Step.{Step}
use Rattle.xc_count.specs.inner.Held.{Held, agree, left_by, holding_uses}
use Rattle.xc_count.specs.inner.Plans.{IsStep, options_with}
use Rattle.xc_count.specs.inner.Worth.{EachKey, holds_first, key_below, says, with_number, worth_by}

-- a key by what is left, whatever that is worth
abbrev pub left_worth : (Residual → ℕ) → Puzzle → Plan → ℕ → List ℕ → ℕ
left_worth h p plan from key = h (left_by p (says plan from key))

-- the states by what is left of them
abbrev pub worth_left : (Residual → ℕ) → Puzzle → Plan → ℕ → List CountState → ℕ
worth_left h p plan from ss = worth_by (left_worth h p plan from) ss

-- what is left once option o is taken, if it fits
abbrev pub worth_taken : (Residual → ℕ) → Puzzle → Held → ℕ → ℕ
worth_taken h p s o = if agree s (uses_of p o) then h (left_by p (holding_uses (uses_of p o) s)) else 0

-- the item of a step
abbrev pub step_item : Plan → Step → ℕ
step_item plan step = slice_index plan.order.items step.place

-- what a key becomes in which the step's item is held: itself, if it is held already, and else one for each option
abbrev pub worth_passed : (Residual → ℕ) → Puzzle → Plan → Step → List ℕ → ℕ
worth_passed h p plan step key =
    if is_some (says plan step.from key (step_item plan step)) then h (left_by p (says plan step.from key))
    else sum_by (worth_taken h p (says plan step.from key)) (options_with p (step_item plan step))

-- how many covers there are with option o, if it is x
abbrev pub with_same : Puzzle → Held → ℕ → ℕ → ℕ
with_same p s x o = if o == x then with_number p s o else 0

-- how many covers of what a key leaves have option x for the step's item
abbrev pub taken_here : Puzzle → Plan → Step → ℕ → List ℕ → ℕ
taken_here p plan step x key = if is_some (says plan step.from key (step_item plan step)) then 0
    else sum_by (with_same p (says plan step.from key) x) (options_with p (step_item plan step))

-- and so of the states of a layer, each as often as there are ways to it
abbrev pub taken_by : Puzzle → Plan → ℕ → Kept → ℕ
taken_by p plan x kept = worth_by (taken_here p plan kept.step x) kept.layer.states.items

-- a layer that was kept, with the step from it
pub record IsKept (p : Puzzle) (plan : Plan) (kept : Kept) : Type 0 where
  pub step : IsStep p plan kept.step
  pub held : EachKey (holds_first plan kept.step.place kept.step.from) kept.layer.states.items

-- the covers below each state of a layer
abbrev pub AreBelow : Puzzle → Plan → Ahead → Type 0
AreBelow p plan ahead =
    ahead.below.items ≡ map (λ s. key_below p plan ahead.from s.key.items) ahead.layer.states.items

-- of these numbers, one for each option, each is so much more
pub record AreMore (more : ℕ → ℕ) (old new : List ℕ) : Type 0 where
  pub len : length new ≡ length old
  pub each : (j : ℕ) → slice_index new j ≡ slice_index old j + more (j + 1)
