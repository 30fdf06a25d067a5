-- By what the text of a span names its problem, and what its record tells of its own bytes.
-- Public contracts rest on this file: readers must believe it.
use Rattle.std.specs.Prelude.{ℕ, ◌+◌, ◌*◌, ◌/◌, ◌^◌, List, [], ◌∷◌, ◌++◌, length, flat_map, fold, nat_lt}
use Rattle.std.specs.Prelude.{if◌then◌else◌}
use Rattle.std.specs.Int.{w64, to_be_bytes}
use Rattle.hex.specs.Hex.{encode_lower}
use Rattle.xc_text.specs.Hashing.{taken}
use Rattle.xc_input.specs.Named.{Named}
use Rattle.xc_list.specs.declared.text_digest.TextDigest.{TextDigest}

-- a list as numbers: its length first, and then the numbers of each element
abbrev pub length_first : {X : Type 0} → (X → List ℕ) → List X → List ℕ
length_first numbers xs = length xs ∷ flat_map numbers xs

-- a problem as numbers: the bounds of its primary items, the bytes of all names and colours, and the options, in which
-- each use is one number
abbrev pub problem_numbers : Named → List ℕ
problem_numbers a =
    length_first (λ b. b.low ∷ b.high ∷ []) a.puzzle.bounds
    ++ length_first (length_first (λ byte. byte ∷ [])) a.names
    ++ length_first (length_first (λ byte. byte ∷ [])) a.colours
    ++ length_first (length_first (λ u. (u.item + u.colour * 2 ^ 32) ∷ [])) a.puzzle.options

-- the state after more numbers, by folded multiplication with 2^64 over the golden ratio, as an odd number
abbrev pub digest_after : ℕ → List ℕ → ℕ
digest_after state numbers = fold (taken 11400714819323198485) state numbers

-- the digest of a problem: the state after its numbers, from the first 64 bits of the fraction of pi, as 16 digits
unfoldable pub digest_of : Named → List ℕ
digest_of a = encode_lower (to_be_bytes w64 (digest_after 2611923443488327891 (problem_numbers a)))

-- ---- texts

-- the digest of no bytes, which begins as that of a problem
abbrev pub begun_digest : TextDigest
begun_digest = record { state = 2611923443488327891; word = 0; held = 0 }

-- one byte more: eight bytes make a number, the first of them its lowest, by which the state goes on
unfoldable pub after_byte : TextDigest → ℕ → TextDigest
after_byte d byte = let word = d.word / 2 ^ 8 + byte * 2 ^ 56 in
    if nat_lt d.held 7 then record { state = d.state; word = word; held = d.held + 1 }
    else record { state = taken 11400714819323198485 d.state word; word = 0; held = 0 }

-- more bytes
abbrev pub after_text : TextDigest → List ℕ → TextDigest
after_text d bytes = fold after_byte d bytes

-- a digest as 16 digits: the state after the bytes that make no eight, as a number, and after how many they are
unfoldable pub digits_of : TextDigest → List ℕ
digits_of d = encode_lower (to_be_bytes w64 (taken 11400714819323198485 (taken 11400714819323198485 d.state d.word)
    d.held))

-- the digest of a text
abbrev pub text_digest : List ℕ → List ℕ
text_digest bytes = digits_of (after_text begun_digest bytes)
