-- Prices of items, and what they say of the costs of covers.
-- No public contract rests on this file.
use Rattle.std.specs.Prelude.{ℕ, zero, suc, ℤ, pos, negsuc, ◌+◌, ◌-◌, ◌*◌, Bool, false, cond, ◌==◌, List, [], ◌∷◌}
use Rattle.std.specs.Prelude.{Option}
use Rattle.std.specs.Prelude.{Some, None, is_some, get_or, sum_by}
use Rattle.xc_input.specs.declared.problem.Bounds.{Bounds}
use Rattle.xc_input.specs.declared.problem.Use.{Use}
use Rattle.xc_input.specs.Problem.{Puzzle, colour_in, item_count, uses_of}
use Rattle.xc_least.specs.declared.priced.Price.{Price}
use Rattle.xc_least.specs.Least.{cost_at}

-- the numbers from n down to 1
abbrev pub up_to : ℕ → List ℕ
up_to zero = []
up_to (suc n) = suc n ∷ up_to n

-- the price of item i
abbrev pub price_of : List Price → ℕ → Price
price_of ws i = get_or ws (i - 1) (record { give = 0; take = 0 })

-- the bounds of item i, or from 0 to 1 if it has none
abbrev pub bounds_or_once : List Bounds → ℕ → Bounds
bounds_or_once bs i = get_or bs (i - 1) (record { low = 0; high = 1 })

-- held, without a colour
abbrev pub has_no_colour : Option ℕ → Bool
has_no_colour None = false
has_no_colour (Some c) = c == 0

-- what item i gives to these uses, and takes from them
abbrev pub given_by_item : List Price → List Use → ℕ → ℕ
given_by_item ws us i = cond (is_some (colour_in us i)) (price_of ws i).give 0

abbrev pub taken_by_item : List Price → List Use → ℕ → ℕ
taken_by_item ws us i = cond (has_no_colour (colour_in us i)) (price_of ws i).take 0

-- a cost in two parts, of which one is 0
abbrev pub part_above : ℤ → ℕ
part_above (pos n) = n
part_above (negsuc n) = 0

abbrev pub part_below : ℤ → ℕ
part_below (pos n) = 0
part_below (negsuc n) = n + 1

-- what an option costs beyond the prices of its items, and what it costs less
abbrev pub over_of : List Price → ℕ → ℤ → List Use → ℕ
over_of ws n z us =
    (part_above z + sum_by (taken_by_item ws us) (up_to n)) - (part_below z + sum_by (given_by_item ws us) (up_to n))

abbrev pub under_of : List Price → ℕ → ℤ → List Use → ℕ
under_of ws n z us =
    (part_below z + sum_by (given_by_item ws us) (up_to n)) - (part_above z + sum_by (taken_by_item ws us) (up_to n))

-- the same of option o
abbrev pub over_at : Puzzle → List ℤ → List Price → ℕ → ℕ
over_at p costs ws o = over_of ws (item_count p) (cost_at costs o) (uses_of p o)

abbrev pub under_at : Puzzle → List ℤ → List Price → ℕ → ℕ
under_at p costs ws o = under_of ws (item_count p) (cost_at costs o) (uses_of p o)

-- what covers are given by item i at least, and what it takes from them at most
abbrev pub given_at_least : List Price → List Bounds → ℕ → ℕ
given_at_least ws bs i = (price_of ws i).give * (bounds_or_once bs i).low

abbrev pub taken_at_most : List Price → List Bounds → ℕ → ℕ
taken_at_most ws bs i = (price_of ws i).take * (bounds_or_once bs i).high
