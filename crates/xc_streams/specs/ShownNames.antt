-- What messages say of where a fault is.
-- Public contracts rest on this file: readers must believe it.
use Rattle.std.specs.Prelude.{ℕ, ◌+◌, ◌/◌, ◌%◌, ◌≡◌, ◌==◌, ◌&&◌, Bool, not, nat_lt, nat_le, if◌then◌else◌}
use Rattle.std.specs.Prelude.{List, [], ◌∷◌, ◌++◌, Option, Some, None, Contains, codes, flat_map}

-- a hexadecimal digit
abbrev pub hex_digit : ℕ → ℕ
hex_digit n = if nat_lt n 10 then 48 + n else 87 + n

-- whether messages show a byte of a name as it is: printable ASCII, but no backslash
abbrev pub is_unescaped : ℕ → Bool
is_unescaped b = nat_le 32 b && nat_le b 126 && not (b == 92)

-- A byte of a name as messages show it: as it is, or by a backslash, an x and two digits.
abbrev pub shown_byte : ℕ → List ℕ
shown_byte b = if is_unescaped b then b ∷ [] else 92 ∷ 120 ∷ hex_digit (b / 16) ∷ hex_digit (b % 16) ∷ []

-- the front of a message about a file, or about standard input
abbrev pub source_text : Option (List ℕ) → List ℕ
source_text None = codes "standard input: "
source_text (Some name) = flat_map shown_byte name ++ codes ": "

-- one of the files that are named, or standard input if none is
abbrev pub IsSource : List (List ℕ) → Option (List ℕ) → Type 0
IsSource files None = files ≡ []
IsSource files (Some name) = Contains files name

-- this is so of one of them
abbrev pub OfSource : List (List ℕ) → (Option (List ℕ) → Type 0) → Type 0
OfSource files says = (file : Option (List ℕ)) × IsSource files file × says file
