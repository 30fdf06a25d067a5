-- Where a search for fair sets stands.
-- No public contract rests on this file.
use Rattle.std.specs.Prelude.{ℕ, ◌≡◌, ◌≢◌, ◌≤◌, ◌<◌, ◌+◌, ◌-◌, ◌^◌, ◌⊎◌, min, slice_index, bit_or}
use Rattle.std.specs.Int.{bit_at}
use Rattle.xc_words.specs.declared.bounded.BoundedWords.{BoundedWords}
use Rattle.xc_words.specs.declared.bounded.Branch.{Branch}
use Rattle.xc_words.specs.Bounded.{AreOfOptions, times_in}

-- Beside a set, no unmet item needs an option, and the branch is all options; or it is those of one that needs some.
abbrev pub IsBranchOf : BoundedWords → ℕ → ℕ → Branch → Type 0
IsBranchOf w unmet set b = ((b.need ≡ 0) × (b.options ≡ 2 ^ 64 - 1)
    × ((i : ℕ) → i < 64 → bit_at unmet i ≡ 1 → slice_index w.low i ≤ times_in w set i))
    ⊎ ((i : ℕ) × (i < 64) × (bit_at unmet i ≡ 1) × (b.options ≡ slice_index w.holders i)
    × (b.need + times_in w set i ≡ slice_index w.low i) × (0 < b.need))

-- a set without x
abbrev pub IsWithout : ℕ → ℕ → ℕ → Type 0
IsWithout set x rest = (bit_at rest x ≡ 0) × ((y : ℕ) → y < 64 → y ≢ x → bit_at rest y ≡ bit_at set y)

-- the members of a that aren't in b
abbrev pub IsMinus : ℕ → ℕ → ℕ → Type 0
IsMinus a b rest = (y : ℕ) → y < 64 → bit_at rest y ≡ min (bit_at a y) (1 - bit_at b y)

-- an item of x holds as many of a set as it may, and y would be one more
abbrev pub IsFullFor : BoundedWords → ℕ → ℕ → ℕ → Type 0
IsFullFor w set x y = (i : ℕ) × (i < 64) × (bit_at (slice_index w.many x) i ≡ 1)
    × (bit_at (slice_index w.holders i) y ≡ 1) × (slice_index w.high i ≤ times_in w set i)

-- of the options that are left, those that stay are the ones that aren't apart from x and that no item is full for
pub record IsBeside (w : BoundedWords) (left set x stay : ℕ) : Type 0 where
  pub stays : (y : ℕ) → y < 64 → bit_at stay y ≡ 1 → (bit_at left y ≡ 1) × (bit_at (slice_index w.apart x) y ≡ 0)
      × (IsFullFor w set x y → ⊥)
  pub goes : (y : ℕ) → y < 64 → bit_at left y ≡ 1 → bit_at stay y ≡ 0
      → (bit_at (slice_index w.apart x) y ≡ 1) ⊎ IsFullFor w set x y

-- no two options of a set are apart, and none of these items is held too often
pub record IsAllowed (w : BoundedWords) (items set : ℕ) : Type 0 where
  pub beside : (x y : ℕ) → x < 64 → y < 64 → bit_at set x ≡ 1 → bit_at set y ≡ 1 → x ≢ y
      → bit_at (slice_index w.apart x) y ≡ 0
  pub within : (i : ℕ) → i < 64 → bit_at items i ≡ 1 → times_in w set i ≤ slice_index w.high i

-- a set is sound, also with any one of the options that are left, and items that are met need no option
pub record IsRight (w : BoundedWords) (items left set unmet : ℕ) : Type 0 where
  pub words : AreOfOptions w items left
  pub sound : IsAllowed w items set
  pub next : (y : ℕ) → y < 64 → bit_at left y ≡ 1 → (bit_at set y ≡ 0) × IsAllowed w items (bit_or set (2 ^ y))
  pub unmet_known : (i : ℕ) → i < 64 → bit_at unmet i ≡ 1 → bit_at items i ≡ 1
  pub met : (i : ℕ) → i < 64 → bit_at items i ≡ 1 → (bit_at unmet i ≡ 1) ⊎ (slice_index w.low i ≤ times_in w set i)
