-- Bytes of a text: where they stand, which are white space, and the numbers that digits stand for.
-- Public contracts rest on this file: readers must believe it.
use Rattle.std.specs.Prelude.{ℕ, ◌+◌, ◌-◌, ◌*◌, length, List, [], ◌∷◌, Bool, ◌&&◌, ◌||◌, Option, nat_eq, nat_le, fold}
use Rattle.std.specs.Prelude.{Some, None, position, take, if◌then◌else◌}
use Rattle.std.specs.Io.BufRead.{ends_with_byte}
use Rattle.std.specs.Char.{is_ascii_digit}
use Prim.Native.Char.{code}
use Rattle.std.specs.List.{list_any, list_all}
use Rattle.std.specs.Str.{bytes_eq}

-- whether the byte is in the list
abbrev pub has : ℕ → List ℕ → Bool
has b xs = list_any (λ x. nat_eq x b) xs

-- what is before the first such byte; all where there is none
abbrev pub before : ℕ → List ℕ → List ℕ
before b [] = []
before b (x ∷ xs) = (if nat_eq x b then [] else x ∷ before b xs)

-- what is after the first such byte; nothing where there is none
abbrev pub after : ℕ → List ℕ → List ℕ
after b [] = []
after b (x ∷ xs) = (if nat_eq x b then xs else after b xs)

-- where a name is in a list, from 0
abbrev pub place : List (List ℕ) → List ℕ → Option ℕ
place names name = position (bytes_eq name) names

-- one digit or more, at most this many
abbrev pub are_digits : ℕ → List ℕ → Bool
are_digits most text = nat_le 1 (length text) && nat_le (length text) most && list_all is_ascii_digit text

-- the number that digits stand for
abbrev pub number : List ℕ → ℕ
number digits = fold (λ n b. n * 10 + (b - code "0")) 0 digits

-- space, tab, vertical tab, form feed and carriage return
abbrev pub is_space : ℕ → Bool
is_space b = nat_eq b (code " ") || nat_eq b 9 || nat_eq b 11 || nat_eq b 12 || nat_eq b 13

-- what is before the text's last byte, where that is this one
abbrev pub before_last : ℕ → List ℕ → Option (List ℕ)
before_last b text = if ends_with_byte b text then Some (take (length text - 1) text) else None
