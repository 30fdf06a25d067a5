-- The classes of options, and covers by their classes.
-- No public contract rests on this file.
use Rattle.std.specs.Prelude.{ℕ, ◌<◌, ◌≤◌, ◌≡◌, ◌≢◌, Bool, false, ◌&&◌, ◌==◌, min, AllPairs, Contains, IsTrue, List}
use Rattle.std.specs.Prelude.{length, map, count_by, slice_get, Option, Some, None, unwrap_or, ◌+◌, ◌-◌, ◌||◌, not}
use Rattle.std.specs.Prelude.{nat_le, nat_lt, [], ◌∷◌, flat_map, slice_set, slice_index, slice_index_or, if◌then◌else◌}
use Rattle.std.specs.Prelude.{Vec, true, All, ◌++◌, codes}
use Rattle.std.specs.Cmp.Lexicographic.{pointwise}
use Rattle.std.specs.List.{reduce, range_with_len, list_all}
use Rattle.std.specs.declared.alloc.Global.{Global}
use Rattle.xc_input.specs.declared.problem.Bounds.{Bounds}
use Rattle.xc_input.specs.declared.problem.Use.{Use}
use Rattle.xc_input.specs.Problem.{Puzzle, option_count, bounds_at, uses_of, colour_in, IsSecondary, IsOption}
use Rattle.xc_input.specs.Problem.{item_count, primary_count}
use Rattle.xc_input.specs.Named.{Named, IsSound, IsKnownUse}
use Rattle.xc_input.specs.Cover.{times_held}
use Rattle.xc_check.specs.UseTexts.{bytes_at, from_item, use_word}
use Rattle.xc_check.specs.Listed.{stands_for, is_known}

-- ======== Options whose uses are rotations of each other are of one class. When options, of which some may be of
-- one class, can be replaced by different ones of their classes that are a cover: by counting.

-- the least item
abbrev pub least_of : List Use → ℕ
least_of us = unwrap_or (reduce min (map (λ u. u.item) us)) 0

-- uses cyclically from the least item's: rotations of one list have the same class
abbrev pub class_of : List Use → List Use
class_of us = from_item (least_of us) us

-- whether these are the same uses
abbrev pub same_uses : List Use → List Use → Bool
same_uses us vs = pointwise (λ u v. u.item == v.item && u.colour == v.colour) us vs

-- the class of option o
abbrev pub class_at : Puzzle → ℕ → List Use
class_at p o = class_of (uses_of p o)

-- options whose uses are rotations of each other
abbrev pub alike : Puzzle → ℕ → ℕ → Bool
alike p a b = same_uses (class_at p a) (class_at p b)

-- the numbers of all options
abbrev pub option_numbers : Puzzle → List ℕ
option_numbers p = range_with_len 1 (option_count p)

-- how many options are of a class
abbrev pub class_size : Puzzle → List Use → ℕ
class_size p class = count_by (λ o. same_uses class (class_at p o)) (option_numbers p)

-- Options, one for each choice line, that stand for their classes: no class is used more often than it has options,
-- and the conditions of a cover hold of them as they are.
pub record IsCoverOfClasses (p : Puzzle) (reps : List ℕ) : Type 0 where
  pub asked : (r : ℕ) → count_by (alike p r) reps ≤ count_by (alike p r) (option_numbers p)
  pub within : (i : ℕ) (b : Bounds) → bounds_at p i ≡ Some b
      → (b.low ≤ times_held p i reps) × (times_held p i reps ≤ b.high)
  pub agree : (j k a b i c d : ℕ) → j < k → slice_get reps j ≡ Some a → slice_get reps k ≡ Some b → IsSecondary p i
      → colour_in (uses_of p a) i ≡ Some c → colour_in (uses_of p b) i ≡ Some d → (c ≡ d) × (0 < c)

-- these are the classes of the problem's options, each once
pub record AreClasses (p : Puzzle) (classes : List (List Use)) : Type 0 where
  pub distinct : AllPairs (λ a b. a ≢ b) classes
  pub whole : (o : ℕ) → IsOption p o → Contains classes (class_at p o)
  pub used : (k : ℕ) (us : List Use) → slice_get classes k ≡ Some us → (o : ℕ) × IsOption p o × (class_at p o ≡ us)

-- a problem and the classes of its options, for contracts on `OptionIndex`
pub record Classes : Type 0 where
  pub problem : Named
  pub classes : List (List Use)

-- the problem is one that can be read, and these are the classes of its options
pub record IsIndexed (b : Classes) : Type 0 where
  pub sound : IsSound b.problem
  pub classes : AreClasses b.problem.puzzle b.classes

-- an option of the class with this number
abbrev pub IsOfClass : Classes → ℕ → ℕ → Type 0
IsOfClass b k o = IsOption b.problem.puzzle o × (slice_get b.classes k ≡ Some (class_at b.problem.puzzle o))

-- the number of the class that a body stands for, if it stands for an option
abbrev pub IsClassOfBody : Classes → List (List ℕ) → Option ℕ → Type 0
IsClassOfBody b words None = is_known b.problem words ≡ false
IsClassOfBody b words (Some k) =
    (k < length b.classes) × ((o : ℕ) → IsOfClass b k o → IsTrue (stands_for b.problem words o))

-- ======== Counts over a listed solution. The item i is at place i - 1.

-- what a counter is for: the bounds of the primary items, how many items there are, and how many classes
pub record Places : Type 0 where
  pub bounds : List Bounds
  pub items : ℕ
  pub classes : ℕ

-- what a counter for these classes is for
abbrev pub places_of : Classes → Places
places_of b =
    record { bounds = b.problem.puzzle.bounds; items = item_count b.problem.puzzle; classes = length b.classes }

-- one more at each of these places
abbrev pub raised : List ℕ → List ℕ → List ℕ
raised [] ns = ns
raised (k ∷ ks) ns = raised ks (slice_set ns k (slice_index ns k + 1))

-- 0 at each of these places
abbrev pub lowered : List ℕ → List ℕ → List ℕ
lowered [] ns = ns
lowered (k ∷ ks) ns = lowered ks (slice_set ns k 0)

-- the places of the items of uses
abbrev pub item_places : List Use → List ℕ
item_places us = map (λ u. u.item - 1) us

-- one more at its item's place for each use
abbrev pub added : List Use → List ℕ → List ℕ
added us ts = raised (item_places us) ts

-- 0 at the place of each use's item
abbrev pub cleared : List Use → List ℕ → List ℕ
cleared us ts = lowered (item_places us) ts

-- each use's colour at its item's place
abbrev pub colours_after : List Use → List ℕ → List ℕ
colours_after [] cs = cs
colours_after (u ∷ us) cs = colours_after us (slice_set cs (u.item - 1) u.colour)

-- the uses of the class with this number
abbrev pub uses_at : List (List Use) → ℕ → List Use
uses_at classes k = slice_index_or classes k []

-- the uses of the classes with these numbers
abbrev pub uses_in : List (List Use) → List ℕ → List Use
uses_in classes ks = flat_map (uses_at classes) ks

-- how many primary items are held less often than they have to be, where the times of the first items are these and the
-- others are held by none
abbrev pub short_of : List Bounds → List ℕ → ℕ
short_of [] ts = 0
short_of (x ∷ bounds) [] = (if nat_lt 0 x.low then 1 else 0) + short_of bounds []
short_of (x ∷ bounds) (t ∷ ts) = (if nat_lt t x.low then 1 else 0) + short_of bounds ts

-- Whether an item that is held t times agrees with a use of it: a primary item with its upper bound, and any other,
-- whose last colour is c, with the use's colour d.
abbrev pub allows_use : Option Bounds → ℕ → ℕ → ℕ → Bool
allows_use (Some x) t c d = nat_le t x.high
allows_use None t c d = t == 1 || (not (d == 0) && d == c)

-- whether its item agrees with a use, by the bounds, the times and the last colours
abbrev pub is_met : List Bounds → List ℕ → List ℕ → Use → Bool
is_met bounds ts cs u =
    allows_use (slice_get bounds (u.item - 1)) (slice_index ts (u.item - 1)) (slice_index cs (u.item - 1)) u.colour

-- whether a class is used no more often than it has options, and its items agree
abbrev pub is_class_met : Classes → List Bounds → List ℕ → List ℕ → List ℕ → ℕ → Bool
is_class_met b bounds ts cs asked k =
    nat_le (slice_index asked k) (class_size b.problem.puzzle (uses_at b.classes k))
    && list_all (is_met bounds ts cs) (uses_at b.classes k)

-- ======== What an index of options stores, and how it finds uses by words.

-- a use that has this word, if one has it
abbrev pub IsUseOfWord : Named → List ℕ → Option Use → Type 0
IsUseOfWord p word None = (u : Use) → IsKnownUse p u → use_word p u ≢ word
IsUseOfWord p word (Some u) = IsKnownUse p u × (use_word p u ≡ word)

-- these uses have these words
pub record HaveWords (p : Named) (words : List (List ℕ)) (us : List Use) : Type 0 where
  pub known : All (IsKnownUse p) us
  pub words_so : map (use_word p) us ≡ words

-- the uses that have these words, if any have
abbrev pub IsReading : Named → List (List ℕ) → Bool → List Use → Type 0
IsReading p words true us = HaveWords p words us
IsReading p words false us = (vs : List Use) → HaveWords p words vs → ⊥

-- the uses of each key of a table
abbrev pub key_uses : List (Vec Use Global) → List (List Use)
key_uses keys = map (λ v. v.items) keys

-- how many of the first n options are of a class
abbrev pub class_size_to : Puzzle → ℕ → List Use → ℕ
class_size_to p n class = count_by (λ o. same_uses class (class_at p o)) (range_with_len 1 n)

-- these are the classes of the first n options, each once, and how many of them are of each class
pub record AreClassesTo (p : Puzzle) (n : ℕ) (classes : List (List Use)) (counts : List ℕ) : Type 0 where
  pub distinct : AllPairs (λ a b. a ≢ b) classes
  pub whole : (o : ℕ) → 1 ≤ o → o ≤ n → Contains classes (class_at p o)
  pub used : (k : ℕ) (us : List Use) → slice_get classes k ≡ Some us → (o : ℕ) × (1 ≤ o) × (o ≤ n) × (class_at p o ≡ us)
  pub counted : counts ≡ map (class_size_to p n) classes

-- these are the classes of a problem that was read
pub record IsOptionIndex (p : Named) (classes : List (Vec Use Global)) (counts : List ℕ) : Type 0 where
  pub sound : IsSound p
  pub complete : AreClassesTo p.puzzle (option_count p.puzzle) (key_uses classes) counts

-- ======== Whether options are a cover, item by item and two options at a time.

-- whether two options may have these colours for an item, if the other one holds it
abbrev pub is_colour_met : Option ℕ → ℕ → Bool
is_colour_met (Some d) c = d == c && nat_lt 0 d
is_colour_met None c = true

-- whether another option, with these uses, agrees with a use; so many items are primary
abbrev pub is_use_met : ℕ → List Use → Use → Bool
is_use_met primary vs u = nat_le u.item primary || is_colour_met (colour_in vs u.item) u.colour

-- whether it agrees with each of these uses
abbrev pub are_uses_met : ℕ → List Use → List Use → Bool
are_uses_met primary vs us = list_all (is_use_met primary vs) us

-- whether two options are one, or agree on secondary items
abbrev pub do_agree : Puzzle → ℕ → ℕ → Bool
do_agree p a b = a == b || are_uses_met (primary_count p) (uses_of p b) (uses_of p a)

-- whether an item may be held so often
abbrev pub is_within : Option Bounds → ℕ → Bool
is_within (Some b) times = nat_le b.low times && nat_le times b.high
is_within None times = true

-- whether options hold a primary item as often as its bounds say
abbrev pub is_held_within : Puzzle → List ℕ → ℕ → Bool
is_held_within p s i = is_within (bounds_at p i) (times_held p i s)

-- ======== The text of a colour.

-- a colour after a colon; nothing for colour 0
abbrev pub colour_text : List (List ℕ) → ℕ → List ℕ
colour_text colours c = if c == 0 then [] else codes ":" ++ bytes_at colours c
