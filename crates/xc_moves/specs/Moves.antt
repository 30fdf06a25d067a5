-- Moves on the lists of options, as functions of the moves on the trail, the newest first.
-- Public contracts rest on this file: readers must believe it.
use Rattle.std.specs.Prelude.{ℕ, ◌+◌, ◌<◌, ◌≤◌, ◌≡◌, Bool, true, false, not, ◌&&◌, ◌||◌, ◌==◌, nat_lt, List, [], ◌∷◌}
use Rattle.std.specs.Prelude.{length, map, filter, take, drop, Option, Some, None, IsTrue, if◌then◌else◌, ⊤, find}
use Rattle.std.specs.Prelude.{replicate}
use Rattle.std.specs.List.{list_any, range_with_len}
use Rattle.xc_moves.specs.declared.dance.Move.{Move}
use Rattle.xc_moves.specs.declared.dance.Move.TheVariants.{Cover, Purify, Tweak, Spend}
use Rattle.xc_input.specs.Problem.{Puzzle, Numbered, numbered_options, primary_count, colour_at, high_at, IsItem}
use Rattle.xc_input.specs.Problem.{IsPrimary, IsSecondary, holding}

-- the colour by which an item is purified, if it is
abbrev pub purified : ℕ → List Move → Option ℕ
purified i [] = None
purified i (Purify j c ∷ t) = if i == j then Some c else purified i t
purified i (_ ∷ t) = purified i t

-- a Cover of the item is on the trail
abbrev pub is_covered : ℕ → List Move → Bool
is_covered i [] = false
is_covered i (Cover j ∷ t) = i == j || is_covered i t
is_covered i (_ ∷ t) = is_covered i t

-- no Cover or Purify of the item is on the trail
abbrev pub is_open : ℕ → List Move → Bool
is_open i [] = true
is_open i (Cover j ∷ t) = not (i == j) && is_open i t
is_open i (Purify j c ∷ t) = not (i == j) && is_open i t
is_open i (_ ∷ t) = is_open i t

-- whether a secondary use of this colour, 0 for none, agrees with an option that has the other colour for its item,
-- if it holds it
abbrev pub agrees : ℕ → Option ℕ → Bool
agrees c None = true
agrees c (Some d) = nat_lt 0 c && c == d

-- how many Spends of the item are on the trail
abbrev pub spends : ℕ → List Move → ℕ
spends i [] = 0
spends i (Spend j ∷ t) = (if i == j then 1 else 0) + spends i t
spends i (_ ∷ t) = spends i t

-- the option is in the list
abbrev pub is_among : List Numbered → Numbered → Bool
is_among os o = list_any (λ x. x.number == o.number) os

-- the options that are not among those that are gone
abbrev pub without : List Numbered → List Numbered → List Numbered
without gone os = filter (λ o. not (is_among gone o)) os

-- another colour than c, or not held
abbrev pub is_other_colour : ℕ → Option ℕ → Bool
is_other_colour c None = true
is_other_colour c (Some d) = not (c == d)

-- the options that have another colour than c for item j, or none
abbrev pub other_colours : ℕ → ℕ → List Numbered → List Numbered
other_colours j c os = filter (λ o. is_other_colour c (colour_at o j)) os

-- The list of item i after moves.
abbrev pub listed : Puzzle → List Move → ℕ → List Numbered
-- at first: all options that hold it
listed p [] i = holding i (numbered_options p)
-- every other open item loses the options in j's list
listed p (Cover j ∷ t) i =
    if not (i == j) && is_open i t then without (listed p t j) (listed p t i) else listed p t i
-- every other open item loses those in j's list that have another colour for j, or none
listed p (Purify j c ∷ t) i =
    if not (i == j) && is_open i t then without (other_colours j c (listed p t j)) (listed p t i) else listed p t i
-- j loses its first option, and if j is open so does every other open item
listed p (Tweak j ∷ t) i =
    if i == j then drop 1 (listed p t j)
    else (if is_open j t && is_open i t then without (take 1 (listed p t j)) (listed p t i) else listed p t i)
-- no list changes
listed p (Spend j ∷ t) i = listed p t i

-- the move may be made after these moves
abbrev pub IsLegal : Puzzle → List Move → Move → Type 0
IsLegal p t (Cover i) = IsItem p i × IsTrue (is_open i t)
IsLegal p t (Purify i c) = IsSecondary p i × IsTrue (is_open i t) × (0 < c)
IsLegal p t (Tweak i) = IsItem p i × (purified i t ≡ None) × (0 < length (listed p t i))
IsLegal p t (Spend i) = IsPrimary p i × (spends i t < high_at p i)

-- each move was legal after those before it
abbrev pub AreLegal : Puzzle → List Move → Type 0
AreLegal p [] = ⊤
AreLegal p (m ∷ t) = IsLegal p t m × AreLegal p t

-- ---- What a dance answers

-- the first number above n, in a list of numbers that rise
abbrev pub next_above : ℕ → List ℕ → Option ℕ
next_above n ns = find (λ k. nat_lt n k) ns

-- the option numbers of item i's list
abbrev pub listed_numbers : Puzzle → List Move → ℕ → List ℕ
listed_numbers p t i = map (λ o. o.number) (listed p t i)

-- the primary items that are open, in order
abbrev pub open_items : Puzzle → List Move → List ℕ
open_items p t = filter (λ i. is_open i t) (range_with_len 1 (primary_count p))

-- item i is primary and open
abbrev pub IsOpenPrimary : Puzzle → List Move → ℕ → Type 0
IsOpenPrimary p t i = IsPrimary p i × IsTrue (is_open i t)

-- the newest k moves are tweaks of one item
abbrev pub AreTweaks : ℕ → List Move → Type 0
AreTweaks k t = (1 ≤ k) × (k ≤ length t) × ((i : ℕ) × (take k t ≡ replicate k (Tweak i)))
