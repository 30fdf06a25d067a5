-- What the words of a command line mean.
-- Public contracts rest on this file: readers must believe it.
use Rattle.std.specs.Prelude.{ℕ, fold, ◌-◌, ◌^◌, List, [], ◌∷◌, ◌==◌, Some, None, Result, Ok, Err}
use Rattle.std.specs.Prelude.{if◌then◌else◌}
use Rattle.std.specs.List.{enumerate_from}
use Rattle.std.specs.Str.{byte}
use Rattle.xc_text.specs.LongNumbers.{long_number}
use Rattle.xc_list.specs.declared.words.Words.{Words}
use Rattle.xc_list.specs.declared.words.WordFault.{WordFault}
use Rattle.xc_list.specs.declared.words.WordFault.TheVariants.{Unknown, BadNumber, ZeroLimit}

-- what is made of the number after a word's letter; a bad one is a fault
abbrev pub read_number : ℕ → List ℕ → (ℕ → Result Words WordFault) → Result Words WordFault
read_number place bs made = elim (long_number bs) [ None ↦ Err (BadNumber place) | Some n ↦ made n ]

-- what one word makes of the words before it
abbrev pub read_word : ℕ → Words → List ℕ → Result Words WordFault
read_word place w [] = Err (Unknown place)
read_word place w (b ∷ bs) =
    if b == byte "m" then read_number place bs (λ n. Ok (record w { spacing = n }))
    else if b == byte "t" then read_number place bs
    (λ n. if n == 0 then Err (ZeroLimit place) else Ok (record w { limit = n }))
    else Err (Unknown place)

-- What words mean, one after another; the first faulty one ends it. With no word no solution is printed, and the
-- limit is the largest number.
abbrev pub read_words : List (List ℕ) → Result Words WordFault
read_words xs = fold (λ r word. elim r [ Ok w ↦ read_word word.0 w word.1 | Err e ↦ Err e ])
    (Ok (record { spacing = 0; limit = 2 ^ 64 - 1 })) (enumerate_from 1 xs)
