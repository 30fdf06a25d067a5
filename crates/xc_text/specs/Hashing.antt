-- How a seed hashes.
-- Public contracts rest on this file: readers must believe it.
use Rattle.std.specs.Prelude.{ℕ, ◌*◌, ◌%◌, ◌/◌, ◌^◌, bit_xor, List, length, nat_eq, if◌then◌else◌, fold}
use Rattle.std.specs.Int.{w32, w64, from_le_bytes}

-- both halves of a product, joined
abbrev pub folded : ℕ → ℕ → ℕ
folded multiplier state = bit_xor (state * multiplier % 2 ^ 64) (state * multiplier / 2 ^ 64)

-- the state after a number
abbrev pub taken : ℕ → ℕ → ℕ → ℕ
taken multiplier state number = folded multiplier (bit_xor state number)

-- the state after a write: four or eight bytes count as one number, others one by one
abbrev pub hashed : ℕ → ℕ → List ℕ → ℕ
hashed multiplier state bytes =
    if nat_eq (length bytes) 4 then taken multiplier state (from_le_bytes w32 bytes)
    else (if nat_eq (length bytes) 8 then taken multiplier state (from_le_bytes w64 bytes)
    else fold (taken multiplier) state bytes)
