-- What the words of a count ask for.
-- Public contracts rest on this file: readers must believe it.
use Rattle.std.specs.Prelude.{ℕ, ◌==◌, List, [], ◌∷◌, Option, Some, None, codes, unwrap_or}
use Rattle.std.specs.Prelude.{Bool, false, not, ◌&&◌, is_some, option_map, option_and_then, if◌then◌else◌}
use Rattle.std.specs.Char.{is_ascii_digit}
use Rattle.std.specs.List.{list_all}
use Rattle.std.specs.Str.{byte, bytes_eq}
use Rattle.xc_input.specs.declared.kind.Kind.{Kind}
use Rattle.xc_text.specs.LongNumbers.{long_number}
use Rattle.xc_tools.specs.Arguments.{numbered_kind}
use Rattle.xc_tools.specs.declared.arguments.count.Question.{Question}
use Rattle.xc_tools.specs.declared.arguments.count.Question.TheVariants.{HowMany, Solution, OfEachOption}

-- what is asked of a problem: how many solutions it has, the solution of the number with these digits, or in how many
-- solutions each option is
pub data Wish : Type 0 where
  how_many : Wish
  solution : List ℕ → Wish
  of_each_option : Wish

-- whether a word names a bound of memory: the letter b and a number
abbrev pub is_bound : List ℕ → Bool
is_bound [] = false
is_bound (b ∷ bs) = b == byte "b" && is_some (long_number bs)

-- digits, not all of them 0
abbrev pub is_positive : List ℕ → Bool
is_positive ds = list_all is_ascii_digit ds && not (list_all (λ d. d == byte "0") ds)

-- the digits of the number that a word means: the letter n and a number that isn't 0
abbrev pub number_word : List ℕ → Option (List ℕ)
number_word [] = None
number_word (b ∷ ds) = if b == byte "n" && is_positive ds then Some ds else None

-- what a word asks: the letter o, or the letter n and a number
abbrev pub question_word : List ℕ → Option Wish
question_word word = if bytes_eq word (codes "o") then Some of_each_option else option_map solution (number_word word)

-- what words after the kind ask; one that names a bound of memory may be before the question, or alone
abbrev pub asked_more : List (List ℕ) → Option Wish
asked_more [] = Some how_many
asked_more (word ∷ []) = if is_bound word then Some how_many else question_word word
asked_more (word ∷ question ∷ []) = if is_bound word then question_word question else None
asked_more _ = None

-- the kind of problem, and what is asked of it
abbrev pub asked_count : List (List ℕ) → Option (Kind × Wish)
asked_count [] = None
asked_count (kind ∷ words) =
    option_and_then (λ k. option_map (λ wish. (k, wish)) (asked_more words)) (numbered_kind kind)

-- what is asked, by its digits if it is for a solution
abbrev pub meaning : Question → Wish
meaning HowMany = how_many
meaning (Solution digits) = solution digits.now
meaning OfEachOption = of_each_option

-- the megabytes that a word means: the letter b and a number
abbrev pub bound_word : List ℕ → Option ℕ
bound_word [] = None
bound_word (b ∷ bs) = if b == byte "b" then long_number bs else None

-- those that words after the kind allow: the first may say so, and else 512
abbrev pub megabytes : List (List ℕ) → ℕ
megabytes [] = 512
megabytes (word ∷ _) = unwrap_or (bound_word word) 512
