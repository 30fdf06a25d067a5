-- What the variables of a problem's clauses mean of a set of options, and that each cover makes clauses true.
-- Public contracts rest on this file: readers must believe it.
use Rattle.std.specs.Prelude.{ℕ, ◌+◌, ◌-◌, ◌/◌, ◌%◌, ◌==◌, Bool, false, not, ◌&&◌, List, Option, Some, None, is_some}
use Rattle.std.specs.Prelude.{slice_index_or, count_by, nat_le, if◌then◌else◌, Vec, All, length, ◌≤◌}
use Rattle.std.specs.List.{list_any}
use Rattle.std.specs.declared.alloc.Global.{Global}
use Rattle.xc_input.specs.Problem.{Puzzle, colour_in, uses_of, option_count}
use Rattle.xc_input.specs.Cover.{IsCover}
use Rattle.refutation.specs.Refutation.{Satisfies}
use Rattle.xc_none.specs.declared.meaning.Meaning.{Meaning}
use Rattle.xc_none.specs.declared.meaning.Meaning.TheVariants.{Chosen, AtLeast, UpTo}

-- whether a set has this option
abbrev pub is_chosen : List ℕ → ℕ → Bool
is_chosen s o = list_any (λ x. x == o) s

-- whether an option holds item i
abbrev pub is_holder : Puzzle → ℕ → ℕ → Bool
is_holder p i o = is_some (colour_in (uses_of p o) i)

-- how many options of a set up to number t hold item i
abbrev pub held_up_to : Puzzle → List ℕ → ℕ → ℕ → ℕ
held_up_to p s i t = count_by (λ o. nat_le o t && is_holder p i o) s

-- the place of an option that gives an item this colour: without one at its own number, with one behind all options
abbrev pub place_of : Puzzle → ℕ → ℕ → ℕ
place_of p o colour = if colour == 0 then o else option_count p + colour

-- whether an option that gives an item this colour, if it holds it, is at a place up to r
abbrev pub is_placed : Puzzle → ℕ → ℕ → Option ℕ → Bool
is_placed p r o None = false
is_placed p r o (Some colour) = nat_le (place_of p o colour) r

-- whether what a variable means is so of a set
abbrev pub is_so : Puzzle → List ℕ → Meaning → Bool
is_so p s (Chosen o) = is_chosen s o
is_so p s (AtLeast i t j) = nat_le j (held_up_to p s i t)
is_so p s (UpTo i r) = list_any (λ o. is_placed p r o (colour_in (uses_of p o) i)) s

-- what the variable of a literal means: variable n, from 1, has the literals 2n and 2n + 1
abbrev pub meaning_of : List Meaning → ℕ → Meaning
meaning_of meanings l = slice_index_or meanings (l / 2 - 1) (Chosen 0)

-- whether a literal is true of a set
abbrev pub value : Puzzle → List Meaning → List ℕ → ℕ → Bool
value p meanings s l =
    if l % 2 == 0 then is_so p s (meaning_of meanings l) else not (is_so p s (meaning_of meanings l))

-- a literal is of a variable that has a meaning
abbrev pub IsLiteralOf : List Meaning → ℕ → Type 0
IsLiteralOf meanings l = (1 ≤ l / 2) × (l / 2 ≤ length meanings)

-- each cover of a problem makes these clauses true, and their variables have a meaning
pub record AreTrueOfCovers (p : Puzzle) (meanings : List Meaning) (clauses : List (Vec ℕ Global)) : Type 0 where
  pub known : All (λ c. All (IsLiteralOf meanings) c.items) clauses
  pub of_covers : (s : List ℕ) → IsCover p s → Satisfies (value p meanings s) clauses
