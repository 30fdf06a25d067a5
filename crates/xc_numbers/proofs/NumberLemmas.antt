-- Lemmas on the numbers of tokens and of lines.
use Rattle.std.proofs.Common.{ℕ, ◌+◌, ◌≡◌, ◌∙◌, List, [], ◌∷◌, ◌++◌, Option, None, Some, Result, Ok, Err, refl, sym, ap}
use Rattle.std.proofs.Common.{append_assoc}
use Rattle.std.specs.Prelude.{ℤ, option_map}
use Rattle.xc_numbers.specs.SignedNumbers.{all_signed, signed, line_numbers, numbers_of_lines, numbers_then}

-- a number that was read belongs to those before
passed : (front : List ℤ) (n : ℤ) (o : Option (List ℤ))
    → option_map (λ more. front ++ more) (option_map (λ more. n ∷ more) o)
    ≡ option_map (λ more. (front ++ n ∷ []) ++ more) o
passed front n None = refl
passed front n (Some more) = ap (λ z. Some z) (sym (append_assoc front (n ∷ []) more))

pub one_more : (front : List ℤ) (n : ℤ) (token : List ℕ) (before after : List (List ℕ)) (all : Option (List ℤ))
    → before ≡ token ∷ after → signed token ≡ Some n
    → all ≡ option_map (λ more. front ++ more) (all_signed before)
    → all ≡ option_map (λ more. (front ++ n ∷ []) ++ more) (all_signed after)
one_more front n token before after all cut is so =
    so ∙ rw (cut, is) (passed front n (all_signed after))

-- the numbers of a line belong to those before
behind : (old front : List ℤ) (n : ℕ) (r : Result (List ℤ) ℕ)
    → numbers_then 0 (Some old) (numbers_then n (Some front) r) ≡ numbers_then 0 (Some (old ++ front)) r
behind old front n (Ok more) = ap (λ z. Ok z) (sym (append_assoc old front more))
behind old front n (Err line) = refl

pub line_more : (old front : List ℤ) (n : ℕ) (line : List ℕ) (before after : List (List ℕ)) (all : Result (List ℤ) ℕ)
    → before ≡ line ∷ after → line_numbers line ≡ Some front
    → all ≡ numbers_then 0 (Some old) (numbers_of_lines n before)
    → all ≡ numbers_then 0 (Some (old ++ front)) (numbers_of_lines (n + 1) after)
line_more old front n line before after all cut is so =
    so ∙ ap (λ b. numbers_then 0 (Some old) (numbers_of_lines n b)) cut
    ∙ ap (λ l. numbers_then 0 (Some old) (numbers_then n l (numbers_of_lines (n + 1) after))) is
    ∙ behind old front n (numbers_of_lines (n + 1) after)
