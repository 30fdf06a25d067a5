-- What the states of a layer take, and how its slots find them.
-- No public contract rests on this file.
use Rattle.std.specs.Prelude.{ℕ, zero, suc, ◌≡◌, ◌+◌, ◌*◌, ◌^◌, ◌/◌, ◌%◌, ◌==◌, ◌&&◌, ◌||◌, Bool, true, false, not}
use Rattle.std.specs.Prelude.{List, [], ◌∷◌, Option, Some, None, fold, length, map, sum_by, slice_get, if◌then◌else◌}
use Rattle.std.specs.Hash.{le_bytes}
use Rattle.xc_text.specs.Hashing.{folded, hashed}
use Rattle.xc_text.specs.declared.seed.Seed.{Seed}
use Rattle.xc_count.specs.declared.layer.Slot.{Slot}
use Rattle.xc_count.specs.declared.layer.State.{State}

-- the key and the hash of each state
abbrev pub told : {W : Type 0} → List (State W) → List (List ℕ × ℕ)
told ss = map (λ s. (s.key.items, s.hash)) ss

-- the bytes that a state counts for: 160, four for each mark of its key, and eight for each limb of its worth
abbrev pub state_bytes : List ℕ → ℕ → ℕ
state_bytes key limbs = 4 * length key + 8 * limbs + 160

-- and all of them, by how many limbs a worth has
abbrev pub charged : {W : Type 0} → (W → ℕ) → List (State W) → ℕ
charged limbs ss = sum_by (λ s. state_bytes s.key.items (limbs s.worth)) ss

-- what a key writes to its hash: two marks as one number
abbrev pub key_words : List ℕ → List (List ℕ)
key_words [] = []
key_words (a ∷ []) = le_bytes 8 a ∷ []
key_words (a ∷ b ∷ key) = le_bytes 8 (a + 4294967296 * b) ∷ key_words key

-- the hash of a key by a seed
abbrev pub hash_by : Seed → List ℕ → ℕ
hash_by seed key = folded seed.multiplier (fold (hashed seed.multiplier) seed.state (key_words key))

-- each state has the hash of its key
abbrev pub AreHashed : Seed → List (List ℕ × ℕ) → Type 0
AreHashed seed ts = (k : ℕ) (t : List ℕ × ℕ) → slice_get ts k ≡ Some t → t.1 ≡ hash_by seed t.0

-- no two places have one key
abbrev pub AreApart : List (List ℕ × ℕ) → Type 0
AreApart ts = (j k : ℕ) (s t : List ℕ × ℕ) → slice_get ts j ≡ Some s → slice_get ts k ≡ Some t → s.0 ≡ t.0 → j ≡ k

-- the slot after this one of so many; after the last is the first
abbrev pub slot_after : ℕ → ℕ → ℕ
slot_after many at = if at + 1 == many then 0 else at + 1

-- a slot has a place under a tag
abbrev pub has_place : Option Slot → ℕ → ℕ → Bool
has_place None tag place = false
has_place (Some s) tag place = s.place == place && s.tag == tag

abbrev pub is_full : Option Slot → Bool
is_full None = false
is_full (Some s) = not (s.place == 0)

-- of so many slots, from this one on, one has a place under a tag, and those before it are full
abbrev pub leads : List Slot → ℕ → ℕ → ℕ → ℕ → Bool
leads slots zero at tag place = false
leads slots (suc n) at tag place = has_place (slice_get slots at) tag place
    || (is_full (slice_get slots at) && leads slots n (slot_after (length slots) at) tag place)

-- from the slot of a hash on
abbrev pub Finds : List Slot → ℕ → ℕ → Type 0
Finds slots hash place = leads slots (length slots) (hash % length slots) (hash / 2 ^ 32) place ≡ true

-- each state is found under its hash, by one more than its place
abbrev pub AreFound : List (List ℕ × ℕ) → List Slot → Type 0
AreFound ts slots = (k : ℕ) (t : List ℕ × ℕ) → slice_get ts k ≡ Some t → Finds slots t.1 (k + 1)
