-- A text of signed whole numbers, one for each of some things in order, in any lines.
-- Public contracts rest on this file: readers must believe it.
use Rattle.std.specs.Prelude.{ℕ, ◌+◌, ◌≤◌, ◌≡◌, nat_eq, List, [], ◌∷◌, ◌++◌, if◌then◌else◌}
use Rattle.std.specs.Prelude.{Option, None, Some, Result, Ok, Err, option_map, option_and_then}
use Rattle.std.specs.Prelude.{ℤ, pos, neg_ℤ, unsigned_abs, Vec}
use Rattle.std.specs.declared.alloc.Global.{Global}
use Prim.Native.Char.{code}
use Rattle.xc_text.specs.Calls.{Rose}
use Rattle.xc_text.specs.Lines.{lines_of}
use Rattle.xc_text.specs.Sources.{SourceState, GaveAll}
use Rattle.xc_text.specs.Words.{are_digits, number}
use Rattle.xc_input.specs.Limits.{greatest_bound}
use Rattle.xc_input.specs.Tokens.{tokens, is_skipped}
use Rattle.xc_numbers.specs.declared.fault.NumbersError.{NumbersError}
use Rattle.xc_numbers.specs.declared.fault.NumbersError.TheVariants.{Fault, Device, Memory}

-- the number that one to nine digits stand for
abbrev pub unsigned : List ℕ → Option ℕ
unsigned digits = if are_digits 9 digits then Some (number digits) else None

-- the number that a token stands for: one to nine digits, perhaps with a minus sign before them
abbrev pub signed : List ℕ → Option ℤ
signed [] = None
signed (b ∷ bs) =
    if nat_eq b (code "-") then option_map (λ n. neg_ℤ (pos n)) (unsigned bs) else option_map pos (unsigned (b ∷ bs))

-- the numbers that tokens stand for, if each is one
abbrev pub all_signed : List (List ℕ) → Option (List ℤ)
all_signed [] = Some []
all_signed (token ∷ others) =
    option_and_then (λ n. option_map (λ more. n ∷ more) (all_signed others)) (signed token)

-- the numbers of a line, which has none if it is a comment
abbrev pub line_numbers : List ℕ → Option (List ℤ)
line_numbers line = if is_skipped line then Some [] else all_signed (tokens line)

-- the numbers of line n and those behind it, or the first faulty line
abbrev pub numbers_then : ℕ → Option (List ℤ) → Result (List ℤ) ℕ → Result (List ℤ) ℕ
numbers_then n None behind = Err n
numbers_then n (Some front) (Err line) = Err line
numbers_then n (Some front) (Ok behind) = Ok (front ++ behind)

-- the numbers of lines, of which the first is line n of a text; or the first line with a token that is no number
abbrev pub numbers_of_lines : ℕ → List (List ℕ) → Result (List ℤ) ℕ
numbers_of_lines n [] = Ok []
numbers_of_lines n (line ∷ lines) = numbers_then n (line_numbers line) (numbers_of_lines (n + 1) lines)

-- a number of at most nine digits
abbrev pub IsShort : ℤ → Type 0
IsShort n = unsigned_abs n ≤ greatest_bound

-- What reading the numbers of a source did: it gave a text of these numbers and its end, or a text with this first
-- faulty line; or a read failed; or there was no memory.
abbrev pub ReadsNumbers : SourceState → SourceState → Result (Vec ℤ Global) NumbersError → Type 0
ReadsNumbers old new (Ok numbers) =
    (text : List ℕ) × GaveAll old new text × (numbers_of_lines 1 (lines_of text) ≡ Ok numbers.items)
ReadsNumbers old new (Err (Fault line)) =
    (text : List ℕ) × GaveAll old new text × (numbers_of_lines 1 (lines_of text) ≡ Err line)
ReadsNumbers old new (Err Device) = Rose old.failures new.failures
ReadsNumbers old new (Err Memory) = new.failures ≡ old.failures
