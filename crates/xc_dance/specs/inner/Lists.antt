-- What helps to prove `Lists`: lists of option numbers that lose options and get them back.
-- No public contract rests on this file.
use Rattle.std.specs.Prelude.{ℕ, ◌<◌, List, [], ◌∷◌, ⊤, ◌≤◌, not, ◌==◌, nat_le, filter, map, vec_capacity, length}
use Rattle.std.specs.Prelude.{slice_set, slice_index_or, ◌≡◌, if◌then◌else◌, ◌+◌, Bool, false, ◌&&◌, ◌++◌, Option, Some}
use Rattle.std.specs.Prelude.{None, All, IsTrue}
use Rattle.std.specs.List.{insert, list_any, range_with_len}
use Rattle.std.specs.Global.{Vec}
use Rattle.xc_input.specs.declared.problem.Use.{Use}
use Rattle.xc_input.specs.Problem.{Puzzle, item_count, uses_of, colour_in, primary_count, high_at}
use Rattle.xc_dance.specs.declared.lists.removed.Removed.{Removed}
use Rattle.xc_moves.specs.declared.dance.Move.{Move}
use Rattle.xc_moves.specs.Moves.{is_open, is_other_colour, listed_numbers, spends}
use Rattle.xc_moves.specs.declared.dance.Move.TheVariants.{Cover, Purify, Tweak, Spend}
use Rattle.xc_dance.specs.declared.lists.state.ItemState.{ItemState}
use Rattle.xc_dance.specs.declared.lists.state.ItemState.TheVariants.{Open, Covered, Purified}
use Rattle.xc_moves.specs.inner.Rising.{Rises}
use Rattle.xc_moves.specs.inner.Uses.{has_use}

-- ======== Taking numbers out of lists, and putting them back.

-- the lists that the vectors hold
abbrev pub numbers_of : List (Vec ℕ) → List (List ℕ)
numbers_of lists = map (λ l. l.items) lists

-- how many numbers each vector has room for
abbrev pub rooms_of : List (Vec ℕ) → List ℕ
rooms_of lists = map (λ l. vec_capacity l) lists

-- the list at a place that counts from 0
abbrev pub list_at : List (List ℕ) → ℕ → List ℕ
list_at lists k = slice_index_or lists k []

-- the numbers that aren't gone
abbrev pub less : List ℕ → List ℕ → List ℕ
less gone ns = filter (λ n. not (list_any (λ g. g == n) gone)) ns

-- the number is in its list again
abbrev pub put_back : Removed → List (List ℕ) → List (List ℕ)
put_back e lists = slice_set lists e.list (insert (list_at lists e.list) e.place e.number)

-- Of what was taken, the newest first, all but the oldest k is put back.
abbrev pub restored : ℕ → List Removed → List (List ℕ) → List (List ℕ)
restored k [] lists = lists
restored k (e ∷ es) lists = if nat_le k (length es) then restored k es (put_back e lists) else lists

-- what then is still taken
abbrev pub still_taken : ℕ → List Removed → List Removed
still_taken k [] = []
still_taken k (e ∷ es) = if nat_le k (length es) then still_taken k es else e ∷ es

-- the lists at each mark, a mark being how much was taken then, the newest first
abbrev pub lists_at_marks : List ℕ → List Removed → List (List ℕ) → List (List (List ℕ))
lists_at_marks [] es lists = []
lists_at_marks (k ∷ ks) es lists = restored k es lists ∷ lists_at_marks ks (still_taken k es) (restored k es lists)

-- the marks, the newest first, fall from n
abbrev pub AreFalling : List ℕ → ℕ → Type 0
AreFalling [] n = ⊤
AreFalling (k ∷ ks) n = (k ≤ n) × AreFalling ks k

-- its list is there, reaches to its place and has room for it
abbrev pub HasRoom : List ℕ → Removed → List (List ℕ) → Type 0
HasRoom rooms e lists =
    (e.list < length lists) × (e.place ≤ length (list_at lists e.list))
    × (length (list_at lists e.list) < slice_index_or rooms e.list 0)

-- put back into the new lists it makes the old ones
abbrev pub IsPutBack : List ℕ → Removed → List (List ℕ) → List (List ℕ) → Type 0
IsPutBack rooms e new old = HasRoom rooms e new × (put_back e new ≡ old)

-- one after another, they can all be put back
abbrev pub Fits : List ℕ → List Removed → List (List ℕ) → Type 0
Fits rooms [] lists = ⊤
Fits rooms (e ∷ es) lists = HasRoom rooms e lists × Fits rooms es (put_back e lists)

-- ======== Lists of option numbers, one for each item, from item 1 on, that lose options.

-- from item i on, every open item but j loses these options
abbrev pub lose_from : List Move → ℕ → List ℕ → ℕ → List (List ℕ) → List (List ℕ)
lose_from t j gone i [] = []
lose_from t j gone i (l ∷ ls) = (if not (i == j) && is_open i t then less gone l else l) ∷ lose_from t j gone (i + 1) ls

-- the same of all lists
abbrev pub lose : List Move → ℕ → List ℕ → List (List ℕ) → List (List ℕ)
lose t j gone ls = lose_from t j gone 1 ls

-- the option has for item i the colour that is kept
abbrev pub keeps_colour : Puzzle → ℕ → Option ℕ → ℕ → Bool
keeps_colour p i None o = false
keeps_colour p i (Some c) o = not (is_other_colour c (colour_in (uses_of p o) i))

-- from item i on, each item that is used has the option at the end of its list
abbrev pub enlisted_from : List Use → ℕ → ℕ → List (List ℕ) → List (List ℕ)
enlisted_from us o i [] = []
enlisted_from us o i (l ∷ ls) = (if has_use us i then l ++ o ∷ [] else l) ∷ enlisted_from us o (i + 1) ls

-- the same of all lists
abbrev pub enlisted : List Use → ℕ → List (List ℕ) → List (List ℕ)
enlisted us o ls = enlisted_from us o 1 ls

-- the lists of all items after moves
abbrev pub lists_after : Puzzle → List Move → List (List ℕ)
lists_after p t = map (listed_numbers p t) (range_with_len 1 (item_count p))

-- these numbers rise, and each is of an option that has a use of item i
abbrev pub IsListOf : Puzzle → ℕ → List ℕ → Type 0
IsListOf p i l = Rises 0 l × All (λ o. IsTrue (has_use (uses_of p o) i)) l

-- the lists of the items from i on
abbrev pub AreListsFrom : Puzzle → ℕ → List (List ℕ) → Type 0
AreListsFrom p i [] = ⊤
AreListsFrom p i (l ∷ ls) = IsListOf p i l × AreListsFrom p (i + 1) ls

-- these are lists of the items in order, one for each
abbrev pub AreLists : Puzzle → List (List ℕ) → Type 0
AreLists p ls = (length ls ≡ item_count p) × AreListsFrom p 1 ls

-- the lists before each move, the newest first
abbrev pub lists_before : Puzzle → List Move → List (List (List ℕ))
lists_before p [] = []
lists_before p (m ∷ t) = lists_after p t ∷ lists_before p t

-- ======== The state of an item after moves.

-- by the newest Cover or Purify of the item on the trail
abbrev pub state_of : ℕ → List Move → ItemState
state_of i [] = Open
state_of i (Cover j ∷ t) = if i == j then Covered else state_of i t
state_of i (Purify j c ∷ t) = if i == j then Purified else state_of i t
state_of i (Tweak j ∷ t) = state_of i t
state_of i (Spend j ∷ t) = state_of i t

-- the states of the items in order
pub record AreStates (p : Puzzle) (t : List Move) (states : List ItemState) : Type 0 where
  pub count : length states ≡ item_count p
  pub each : (k : ℕ) → k < item_count p → slice_index_or states k Open ≡ state_of (k + 1) t

-- what is left of the upper bounds of the primary items in order
pub record AreLeft (p : Puzzle) (t : List Move) (left : List ℕ) : Type 0 where
  pub count : length left ≡ primary_count p
  pub each : (k : ℕ) → k < primary_count p → slice_index_or left k 0 + spends (k + 1) t ≡ high_at p (k + 1)

-- ======== What lists that can go back stand for.

-- the lists as they are and as they were at each mark
pub record Versions : Type 0 where
  pub lists : List (List ℕ)
  -- the lists at each mark, the newest first
  pub marked : List (List (List ℕ))
  -- how many marks there is room for
  pub room : ℕ
