-- What a text writes down: items and uses.
-- Public contracts rest on this file: readers must believe it.
use Rattle.std.specs.Prelude.{ℕ, ◌+◌, List, [], ◌∷◌, ◌++◌, is_none, unwrap_or, if◌then◌else◌, map, fold}
use Rattle.xc_input.specs.declared.problem.Use.{Use}
use Rattle.xc_text.specs.Words.{place}

-- an item: its name, and how many options of a cover hold it
pub record Entry : Type 0 where
  pub name : List ℕ
  pub low : ℕ
  pub high : ℕ

-- a use as an option line writes it: the number of its item, and its colour, empty for none
pub record Written : Type 0 where
  pub item : ℕ
  pub colour : List ℕ

-- the colours so far and this one, where it is a new one
abbrev pub with_colour : List (List ℕ) → List ℕ → List (List ℕ)
with_colour colours [] = colours
with_colour colours (b ∷ bs) = (if is_none (place colours (b ∷ bs)) then colours ++ (b ∷ bs) ∷ [] else colours)

-- the colours of uses in order, each where it is met first
abbrev pub colours_of : List Written → List (List ℕ)
colours_of us = fold (λ cs u. with_colour cs u.colour) [] us

-- the number of a colour; none has 0
abbrev pub colour_number : List (List ℕ) → List ℕ → ℕ
colour_number colours [] = 0
colour_number colours (b ∷ bs) = unwrap_or (place colours (b ∷ bs)) 0 + 1

-- the uses of an option that is kept, each colour by its place among these
abbrev pub number_uses : List (List ℕ) → List Written → List Use
number_uses colours us = map (λ u. record { item = u.item; colour = colour_number colours u.colour }) us
