-- How options, names and whole problems are stored.
-- No public contract rests on this file.
use Rattle.std.specs.Prelude.{ℕ, ◌≤◌, ◌≡◌, List, [], ◌∷◌, slice_range, suc, Option, Vec, map, ◌-◌, Some, take, length}
use Rattle.std.specs.Prelude.{slice_get, ◌+◌, ◌*◌, ◌<◌, get_or}
use Rattle.std.specs.Option.{option_map}
use Rattle.std.specs.declared.alloc.Global.{Global}
use Rattle.xc_text.specs.Words.{place}
use Rattle.xc_input.specs.declared.problem.Item.{Item}
use Rattle.xc_input.specs.declared.problem.Use.{Use}
use Rattle.xc_text.specs.declared.seed.Seed.{Seed}
use Rattle.xc_input.specs.ItemBounds.{bounds_of, secondary_bounds}
use Rattle.xc_input.specs.Named.{Named}

-- ======== Options kept in one list of uses, with the places where they start and at last the length.

-- the parts from each start to the next
abbrev pub pieces : {X : Type 0} → List ℕ → List X → List (List X)
pieces [] us = []
pieces (a ∷ []) us = []
pieces (a ∷ b ∷ starts) us = slice_range us a b ∷ pieces (b ∷ starts) us

-- the starts rise to the length
abbrev pub AreStarts : List ℕ → ℕ → Type 0
AreStarts [] n = ⊥
AreStarts (a ∷ []) n = a ≡ n
AreStarts (a ∷ b ∷ starts) n = (a ≤ b) × AreStarts (b ∷ starts) n

-- ======== The bytes that tables store, and their numbers.

-- the bytes of each key of a table
abbrev pub key_names : List (Vec ℕ Global) → List (List ℕ)
key_names keys = map (λ v. v.items) keys

-- the number of a name in a list, from 1, if it is there
abbrev pub number_in : List (List ℕ) → List ℕ → Option ℕ
number_in names name = option_map suc (place names name)

-- ======== The problem that vectors hold: the items, how many of them are primary, the uses of all options, where
-- each option starts and at last how many uses there are, and the colours.

-- an item that may be left out, and is held at most once
abbrev pub IsOptional : Item → Type 0
IsOptional x = bounds_of x ≡ secondary_bounds

-- the starts of options that have all of these uses: the first is 0, and they rise to the length
abbrev pub AreOptionStarts : List ℕ → List Use → Type 0
AreOptionStarts starts uses = (slice_get starts 0 ≡ Some 0) × AreStarts starts (length uses)

-- the problem of such vectors, whose tables hash by a seed
abbrev pub named_from : List Item → ℕ → List Use → List ℕ → List (Vec ℕ Global) → Seed → Named
named_from items primary uses starts keys seed = record {
  names = map (λ x. x.name.items) items;
  colours = key_names keys;
  puzzle = record {
    bounds = map bounds_of (take primary items);
    secondary = length items - primary;
    options = pieces starts uses;
  };
  seed = seed;
}

-- ======== Short names as numbers.

-- the number of a word: its bytes are digits, the first the lowest, below a digit 1
abbrev pub word_number : List ℕ → ℕ
word_number [] = 1
word_number (b ∷ bs) = b + 256 * word_number bs

-- bytes
abbrev pub AreBytes : List ℕ → Type 0
AreBytes bs = (i : ℕ) → get_or bs i 0 < 256

-- no other text has this number
abbrev pub IsWordOf : List ℕ → ℕ → Type 0
IsWordOf name number = (text : List ℕ) → AreBytes text → word_number text ≡ number → text ≡ name

-- each number is of no other text than the name at its place
pub record AreWords (names : List (List ℕ)) (words : List ℕ) : Type 0 where
  pub few : length words ≤ length names
  pub own : (k : ℕ) → k < length words → IsWordOf (get_or names k []) (get_or words k 0)
