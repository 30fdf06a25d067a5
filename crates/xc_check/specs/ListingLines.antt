-- The lines of a listing: headers, and choice lines with their bodies.
-- Public contracts rest on this file: readers must believe it.
use Rattle.std.specs.Prelude.{ℕ, ◌-◌, Bool, false, not, ◌&&◌, ◌==◌, nat_le, List, [], ◌∷◌, codes, length, take, drop}
use Rattle.std.specs.Prelude.{Option, Some, None, is_some, option_and_then, slice_get, if◌then◌else◌}
use Rattle.std.specs.List.{list_all, list_any, slice_split}
use Rattle.std.specs.Str.{byte, bytes_eq}
use Rattle.xc_text.specs.Words.{is_space, are_digits, before_last}
use Rattle.xc_text.specs.LongNumbers.{long_number}

-- the words of a text that single spaces part
abbrev pub words_in : List ℕ → List (List ℕ)
words_in text = slice_split (λ b. b == byte " ") text

-- a header's number, where it fits: one to twenty digits and a colon, and nothing else
abbrev pub header_number : List ℕ → Option ℕ
header_number line = elim (before_last (byte ":") line)
    [ None ↦ None | Some text ↦ if nat_le (length text) 20 then long_number text else None ]

-- one byte or more, and no white space
abbrev pub is_word : List ℕ → Bool
is_word word = not (length word == 0) && not (list_any is_space word)

-- `(` and one to ten digits
abbrev pub is_opening : List ℕ → Bool
is_opening [] = false
is_opening (b ∷ text) = b == byte "(" && are_digits 10 text

-- one to ten digits and `)`
abbrev pub is_closing : List ℕ → Bool
is_closing text = elim (before_last (byte ")") text) [ None ↦ false | Some digits ↦ are_digits 10 digits ]

-- `(k`, `of`, `n)`
abbrev pub is_ending : List (List ℕ) → Bool
is_ending (a ∷ b ∷ c ∷ []) = is_opening a && bytes_eq b (codes "of") && is_closing c
is_ending _ = false

-- the body of these words: those before the last three
abbrev pub body_of_words : List (List ℕ) → Option (List (List ℕ))
body_of_words words =
    let k = length words - 3 in
    if nat_le 1 k && list_all is_word words && is_ending (drop k words) then Some (take k words) else None

-- A choice line is a space and at least four words that single spaces part; its body.
abbrev pub body_of : List ℕ → Option (List (List ℕ))
body_of [] = None
body_of (b ∷ line) = if b == byte " " then body_of_words (words_in line) else None

-- the number of the branch in the words of a choice line: k, where the last three are `(k`, `of`, `n)`
abbrev pub number_in_words : List (List ℕ) → Option ℕ
number_in_words words = if is_some (body_of_words words)
    then option_and_then (λ word. long_number (drop 1 word)) (slice_get words (length words - 3)) else None

-- the same of a choice line, where it is one
abbrev pub branch_number : List ℕ → Option ℕ
branch_number [] = None
branch_number (b ∷ line) = if b == byte " " then number_in_words (words_in line) else None
