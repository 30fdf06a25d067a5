-- Sets of options, as words of 64 bits, that hold items within bounds.
-- Public contracts rest on this file: readers must believe it.
use Rattle.std.specs.Prelude.{ℕ, ◌≡◌, ◌≢◌, ◌≤◌, ◌<◌, ◌+◌, ◌^◌, ◌⊎◌, ◌==◌, ◌&&◌, ◌||◌, Bool, List, [], ◌∷◌, not, nat_le}
use Rattle.std.specs.Prelude.{slice_index, bit_and, bit_or, count_ones, if◌then◌else◌}
use Rattle.std.specs.Int.{bit_at}
use Rattle.std.specs.List.{list_all}
use Rattle.xc_words.specs.declared.bounded.BoundedWords.{BoundedWords}
use Rattle.xc_words.specs.Words.{bits_of}

-- how many options of a set hold item i
abbrev pub times_in : BoundedWords → ℕ → ℕ → ℕ
times_in w set i = count_ones (bit_and (slice_index w.holders i) set)

-- no two options of a set are apart
abbrev pub none_apart : BoundedWords → ℕ → Bool
none_apart w set =
    list_all (λ x. list_all (λ y. x == y || not (bit_at (slice_index w.apart x) y == 1)) (bits_of set)) (bits_of set)

-- a set holds an item within its bounds
abbrev pub holds_within : BoundedWords → ℕ → ℕ → Bool
holds_within w set i =
    nat_le (slice_index w.low i) (times_in w set i) && nat_le (times_in w set i) (slice_index w.high i)

-- no two options of a set are apart, and it holds each of these items within its bounds
abbrev pub is_fair : BoundedWords → ℕ → ℕ → Bool
is_fair w items set = none_apart w set && list_all (holds_within w set) (bits_of items)

-- how many sets are fair that have the options of one set, and of some others each or not
abbrev pub fair_sets : BoundedWords → ℕ → List ℕ → ℕ → ℕ
fair_sets w items [] set = if is_fair w items set then 1 else 0
fair_sets w items (x ∷ xs) set = fair_sets w items xs set + fair_sets w items xs (bit_or set (2 ^ x))

-- The words of these items, and of the options that are left: apart goes both ways, each item may be held, and an
-- option has each of its items among its own, unless all other options of the item are apart from it.
pub record AreOfOptions (w : BoundedWords) (items left : ℕ) : Type 0 where
  pub both : (x y : ℕ) → x < 64 → y < 64 → bit_at left x ≡ 1 → bit_at left y ≡ 1
      → bit_at (slice_index w.apart x) y ≡ 1 → bit_at (slice_index w.apart y) x ≡ 1
  pub some : (i : ℕ) → i < 64 → bit_at items i ≡ 1 → 1 ≤ slice_index w.high i
  pub known : (x i : ℕ) → x < 64 → i < 64 → bit_at left x ≡ 1 → bit_at (slice_index w.many x) i ≡ 1
      → bit_at items i ≡ 1
  pub held : (x i : ℕ) → x < 64 → i < 64 → bit_at left x ≡ 1 → bit_at items i ≡ 1
      → bit_at (slice_index w.holders i) x ≡ 1 → (bit_at (slice_index w.many x) i ≡ 1)
      ⊎ ((y : ℕ) → y < 64 → bit_at left y ≡ 1 → y ≢ x → bit_at (slice_index w.holders i) y ≡ 1
      → bit_at (slice_index w.apart x) y ≡ 1)
