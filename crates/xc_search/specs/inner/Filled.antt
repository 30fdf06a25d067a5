-- The words of items and options on the way to `Few.AreUseWords`.
-- No public contract rests on this file.
use Rattle.std.specs.Prelude.{ℕ, ◌≡◌, ◌≤◌, ◌+◌, ◌*◌, ◌⊎◌, Bool, not, List, ◌==◌, ◌&&◌, ◌||◌, length, is_some}
use Rattle.std.specs.Prelude.{slice_index}
use Rattle.std.specs.Int.{bit_at}
use Rattle.std.specs.List.{list_any}
use Rattle.xc_input.specs.Named.{Named}
use Rattle.xc_input.specs.Problem.{Puzzle, uses_of, colour_in, item_count}
use Rattle.xc_input.specs.declared.problem.Use.{Use}

-- whether the option at place y of these holds item j
abbrev pub held_at : Puzzle → List ℕ → ℕ → ℕ → Bool
held_at p os j y = is_some (colour_in (uses_of p (slice_index os y)) j)

-- the bits of a word tell which options hold item j
abbrev pub TellsHolders : Puzzle → List ℕ → ℕ → ℕ → Type 0
TellsHolders p os j w = (y : ℕ) → (bit_at w y == 1) ≡ held_at p os j y

-- whether one of these uses gives item j colour c
abbrev pub gives : List Use → ℕ → ℕ → Bool
gives us j c = list_any (λ u. u.item == j && u.colour == c) us

-- the bits of a word tell which options give item j colour c
abbrev pub TellsColour : Puzzle → List ℕ → ℕ → ℕ → ℕ → Type 0
TellsColour p os j c w = (y : ℕ) → (bit_at w y == 1) ≡ gives (uses_of p (slice_index os y)) j c

-- where the word of an item and a colour is, of n colours
abbrev pub colour_place : ℕ → ℕ → ℕ → ℕ
colour_place n j c = j * (n + 1) + c

-- so many words are enough for each item with each colour, if there are colours
abbrev pub HasColourRoom : Named → ℕ → Type 0
HasColourRoom a n = (length a.colours ≡ 0) ⊎ ((item_count a.puzzle + 1) * (length a.colours + 1) ≤ n)

-- by the words of items, and of items with n colours, the option at place y holds the use's item, and doesn't agree
abbrev pub differs_at : ℕ → List ℕ → List ℕ → Use → ℕ → Bool
differs_at n holders coloured u y = bit_at (slice_index holders u.item) y == 1
    && (u.colour == 0 || not (bit_at (slice_index coloured (colour_place n u.item u.colour)) y == 1))

-- it does so with one of these uses
abbrev pub shares_at : ℕ → List ℕ → List ℕ → List Use → ℕ → Bool
shares_at n holders coloured us y = list_any (λ u. differs_at n holders coloured u y) us
