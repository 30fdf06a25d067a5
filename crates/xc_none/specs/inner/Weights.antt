-- Weights of items, and the sums that show that no set of options is a cover.
-- No public contract rests on this file.
use Rattle.std.specs.Prelude.{ℕ, zero, suc, ◌+◌, ◌-◌, ◌*◌, Bool, false, cond, ◌==◌, List, [], ◌∷◌, Option, Some, None}
use Rattle.std.specs.Prelude.{get_or, sum_by, unwrap_or, ℤ, pos, negsuc}
use Rattle.xc_input.specs.declared.problem.Bounds.{Bounds}
use Rattle.xc_input.specs.declared.problem.Use.{Use}
use Rattle.xc_input.specs.ItemBounds.{secondary_bounds}
use Rattle.xc_input.specs.Problem.{Puzzle, bounds_at, uses_of}

-- the numbers from n down to 1
abbrev pub upto : ℕ → List ℕ
upto zero = []
upto (suc n) = suc n ∷ upto n

-- how far a number is above zero, and how far below
abbrev pub gain : ℤ → ℕ
gain (pos n) = n
gain (negsuc n) = 0

abbrev pub loss : ℤ → ℕ
loss (pos n) = 0
loss (negsuc n) = n + 1

-- the weight of item i
abbrev pub weight_of : List ℤ → ℕ → ℤ
weight_of ws i = get_or ws (i - 1) (pos 0)

-- what an option gains by item i if it holds it, and what it loses by it without a colour
abbrev pub gain_of : List ℤ → ℕ → ℕ
gain_of ws i = gain (weight_of ws i)

abbrev pub loss_of : List ℤ → ℕ → ℕ
loss_of ws i = loss (weight_of ws i)

-- how often item i may be held without a colour
abbrev pub limits_of : Puzzle → ℕ → Bounds
limits_of p i = unwrap_or (bounds_at p i) secondary_bounds

-- whether an item is held, without a colour
abbrev pub is_uncoloured : Option ℕ → Bool
is_uncoloured None = false
is_uncoloured (Some c) = c == 0

-- what an option gains and loses by these uses
abbrev pub gains : List ℤ → List Use → ℕ
gains ws us = sum_by (λ u. gain_of ws u.item) us

abbrev pub losses : List ℤ → List Use → ℕ
losses ws us = sum_by (λ u. cond (u.colour == 0) (loss_of ws u.item) 0) us

-- what option o has beyond 0
abbrev pub excess : List ℤ → Puzzle → ℕ → ℕ
excess ws p o = gains ws (uses_of p o) - losses ws (uses_of p o)

-- what covers gain by item i at least, and what they lose by it at most
abbrev pub asks : List ℤ → Puzzle → ℕ → ℕ
asks ws p i = gain_of ws i * (limits_of p i).low

abbrev pub allows : List ℤ → Puzzle → ℕ → ℕ
allows ws p i = loss_of ws i * (limits_of p i).high
