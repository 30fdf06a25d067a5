-- Worked problems. Each has its items, with bounds, a bar and the secondary ones, and then its options.
-- Public contracts rest on this file: readers must believe it.
use Rattle.std.specs.Prelude.{ℕ, [], ◌∷◌, Option}
use Rattle.xc_input.specs.declared.problem.Bounds.{Bounds}
use Rattle.xc_input.specs.declared.problem.Use.{Use}
use Rattle.xc_search.specs.declared.choice.Choice.{Choice}
use Rattle.xc_input.specs.Problem.{Puzzle}

-- held at least low and at most high times
abbrev pub within : ℕ → ℕ → Bounds
within low high = record { low = low; high = high }

-- a use without colour
abbrev pub plain : ℕ → Use
plain i = record { item = i; colour = 0 }

-- a use of colour c
abbrev pub coloured_use : ℕ → ℕ → Use
coloured_use i c = record { item = i; colour = c }

-- branch k of the n of item i
abbrev pub choice : ℕ → Option ℕ → ℕ → ℕ → Choice
choice i o k n = record { item = i; option = o; k = k; n = n }

-- a b c d e f g: c e / a d g / b c f / a d f / b g / d e g
abbrev pub seven_items : Puzzle
seven_items = record {
  bounds = within 1 1 ∷ within 1 1 ∷ within 1 1 ∷ within 1 1 ∷ within 1 1 ∷ within 1 1 ∷ within 1 1 ∷ [];
  secondary = 0;
  options =
      (plain 3 ∷ plain 5 ∷ []) ∷ (plain 1 ∷ plain 4 ∷ plain 7 ∷ []) ∷ (plain 2 ∷ plain 3 ∷ plain 6 ∷ [])
      ∷ (plain 1 ∷ plain 4 ∷ plain 6 ∷ []) ∷ (plain 2 ∷ plain 7 ∷ []) ∷ (plain 4 ∷ plain 5 ∷ plain 7 ∷ [])
      ∷ [];
}

-- p q r | x y: p q x y:A / p r x:A y / p x:B / q x:A / r y:B
abbrev pub two_colours : Puzzle
two_colours = record {
  bounds = within 1 1 ∷ within 1 1 ∷ within 1 1 ∷ [];
  secondary = 2;
  options =
      (plain 1 ∷ plain 2 ∷ plain 4 ∷ coloured_use 5 1 ∷ []) ∷ (plain 1 ∷ plain 3 ∷ coloured_use 4 1 ∷ plain 5 ∷ [])
      ∷ (plain 1 ∷ coloured_use 4 2 ∷ []) ∷ (plain 2 ∷ coloured_use 4 1 ∷ []) ∷ (plain 3 ∷ coloured_use 5 2 ∷ []) ∷ [];
}

-- 1:2|A B: A / A B / B
abbrev pub once_or_twice : Puzzle
once_or_twice = record {
  bounds = within 1 2 ∷ within 1 1 ∷ [];
  secondary = 0;
  options = (plain 1 ∷ []) ∷ (plain 1 ∷ plain 2 ∷ []) ∷ (plain 2 ∷ []) ∷ [];
}

-- A: A / A / A
abbrev pub equal_options : Puzzle
equal_options = record {
  bounds = within 1 1 ∷ [];
  secondary = 0;
  options = (plain 1 ∷ []) ∷ (plain 1 ∷ []) ∷ (plain 1 ∷ []) ∷ [];
}

-- A B: A
abbrev pub missing_item : Puzzle
missing_item = record { bounds = within 1 1 ∷ within 1 1 ∷ []; secondary = 0; options = (plain 1 ∷ []) ∷ [] }

-- A B | x: A x:1 / B x:1 / B x:2 / B x
abbrev pub one_colour : Puzzle
one_colour = record {
  bounds = within 1 1 ∷ within 1 1 ∷ [];
  secondary = 1;
  options =
      (plain 1 ∷ coloured_use 3 1 ∷ []) ∷ (plain 2 ∷ coloured_use 3 1 ∷ []) ∷ (plain 2 ∷ coloured_use 3 2 ∷ [])
      ∷ (plain 2 ∷ plain 3 ∷ []) ∷ [];
}

-- 0:2|A: A / A
abbrev pub up_to_twice : Puzzle
up_to_twice = record { bounds = within 0 2 ∷ []; secondary = 0; options = (plain 1 ∷ []) ∷ (plain 1 ∷ []) ∷ [] }

-- 0:1|A: no option
abbrev pub no_options : Puzzle
no_options = record { bounds = within 0 1 ∷ []; secondary = 0; options = [] }

-- 999999999|A: A
abbrev pub largest_bound : Puzzle
largest_bound = record { bounds = within 999999999 999999999 ∷ []; secondary = 0; options = (plain 1 ∷ []) ∷ [] }

-- 2|A: A / A
abbrev pub both_options : Puzzle
both_options = record { bounds = within 2 2 ∷ []; secondary = 0; options = (plain 1 ∷ []) ∷ (plain 1 ∷ []) ∷ [] }

-- A B | x y: A x / A y / B x / B y / B
abbrev pub blank_secondary : Puzzle
blank_secondary = record {
  bounds = within 1 1 ∷ within 1 1 ∷ [];
  secondary = 2;
  options =
      (plain 1 ∷ plain 3 ∷ []) ∷ (plain 1 ∷ plain 4 ∷ []) ∷ (plain 2 ∷ plain 3 ∷ [])
      ∷ (plain 2 ∷ plain 4 ∷ []) ∷ (plain 2 ∷ []) ∷ [];
}

-- 2|A 0:1|B | x: A B / A x:1 / A x:2 / B
abbrev pub bounds_and_colours : Puzzle
bounds_and_colours = record {
  bounds = within 2 2 ∷ within 0 1 ∷ [];
  secondary = 1;
  options =
      (plain 1 ∷ plain 2 ∷ []) ∷ (plain 1 ∷ coloured_use 3 1 ∷ []) ∷ (plain 1 ∷ coloured_use 3 2 ∷ [])
      ∷ (plain 2 ∷ []) ∷ [];
}

-- 0:2|A B: A B / A
abbrev pub bound_beside_one : Puzzle
bound_beside_one = record {
  bounds = within 0 2 ∷ within 1 1 ∷ [];
  secondary = 0;
  options = (plain 1 ∷ plain 2 ∷ []) ∷ (plain 1 ∷ []) ∷ [];
}
