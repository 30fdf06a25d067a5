-- The levels of a search, their moves, and what these leave of a problem.
-- No public contract rests on this file.
use Rattle.std.specs.Prelude.{ℕ, ◌+◌, length, ◌==◌, List, Option, Some, None, find, ◌-◌, ◌≤◌, ◌≡◌, Bool, true, false}
use Rattle.std.specs.Prelude.{◌&&◌, [], ◌∷◌, ◌++◌, drop, if◌then◌else◌, replicate, suc, ◌⊎◌, ◌<◌, All, IfSome, nat_lt}
use Rattle.std.specs.Prelude.{min, map, reverse, option_map, unwrap_or, slice_get, flat_map, sum_by, count_by, nat_le}
use Rattle.std.specs.List.{AllByRecursion}
use Rattle.xc_input.specs.Problem.{Puzzle, Numbered, low_at, high_at, primary_count, use_count, IsValid, IsItem}
use Rattle.xc_input.specs.Problem.{IsPrimary, IsOption, numbered_get, holding, uses_of, option_count}
use Rattle.xc_input.specs.declared.problem.Use.{Use}
use Rattle.xc_input.specs.UsePlaces.{place_in}
use Rattle.xc_moves.specs.declared.dance.Move.{Move}
use Rattle.xc_moves.specs.inner.Left.{left}
use Rattle.xc_moves.specs.declared.dance.Move.TheVariants.{Cover, Tweak, Spend, Purify}
use Rattle.xc_moves.specs.Moves.{is_open, spends, AreLegal, open_items, IsOpenPrimary}
use Rattle.xc_moves.specs.Places.{link_place}
use Rattle.xc_moves.specs.Commits.{option_at, IsUseAt, after_spend, after_uses, others}
use Rattle.xc_search.specs.Once.{IsOnce}
use Rattle.xc_search.specs.Listing.{Residual, Wanted, Branch, branch, pick, none, branch_count, branches_of, level}
use Rattle.xc_search.specs.Listing.{listing}
use Rattle.xc_search.specs.Residuals.{wanted_after, wanted_at, branches_after, choice_after}
use Rattle.xc_search.specs.Room.{room_for}
use Rattle.xc_search.specs.declared.choice.Choice.{Choice}
use Rattle.xc_search.specs.declared.level.Level.{Level}
use Rattle.xc_search.specs.declared.marks.Mark.{Mark}
use Rattle.xc_search.specs.declared.level.Begun.{Begun}

-- ======== How much is left of a problem.

-- each level of the listing takes an item or an option away
abbrev pub size_of : Residual → ℕ
size_of r = length r.items + length r.options

-- ======== What moves leave of a problem, as the listing sees it.

-- the open primary items with what the Spends leave, and the options left
abbrev pub residual_of : Puzzle → List Move → Residual
residual_of p t = record { items = wanted_after p t; options = left p t }

-- item i, where it is left
abbrev pub item_left : Residual → ℕ → Option Wanted
item_left r i = find (λ w. w.item == i) r.items

-- the branch that takes the k-th option of an item, of n branches
abbrev pub take_branch : Residual → ℕ → ℕ → ℕ × Numbered → Branch
take_branch r i n kx = branch i kx.0 n (Some kx.1.number) (pick r i kx.1)

-- the branch that takes none
abbrev pub none_branch : Residual → ℕ → ℕ → Branch
none_branch r i n = branch i n n None (none r i)

-- ======== The moves of a level.

-- moves that may be on the trail: they are legal, and a search has room for them
pub record MayStand (p : Puzzle) (t : List Move) : Type 0 where
  pub legal : AreLegal p t
  pub room : length t ≤ room_for p

-- the oldest n moves
abbrev pub oldest : ℕ → List Move → List Move
oldest n t = drop (length t - n) t

-- after the Spend nothing is left of the bound, and the bounds are equal: the item's list is walked
abbrev pub walks : Puzzle → List Move → ℕ → Bool
walks p t i = (high_at p i - spends i (Spend i ∷ t)) == 0 && low_at p i == high_at p i

-- k tweaks of item i
abbrev pub tweaked : ℕ → ℕ → List Move → List Move
tweaked k i t = replicate k (Tweak i) ++ t

-- a move is a tweak
abbrev pub is_tweak : Move → Bool
is_tweak (Tweak i) = true
is_tweak _ = false

-- above the oldest n moves is no tweak
unfoldable pub NoTweakAbove : ℕ → List Move → Type 0
NoTweakAbove n [] = Unit {0}
NoTweakAbove n (m ∷ t) = n ≤ length t → (is_tweak m ≡ false) × NoTweakAbove n t

-- the branch of none: the item is covered where it is open
abbrev pub after_none : ℕ → List Move → List Move
after_none i t = if is_open i t then Cover i ∷ t else t

-- ======== The Spends of a search.

-- how many of the moves are Spends
abbrev pub spendings : List Move → ℕ
spendings [] = 0
spendings (Cover j ∷ t) = spendings t
spendings (Purify j c ∷ t) = spendings t
spendings (Tweak j ∷ t) = spendings t
spendings (Spend j ∷ t) = suc (spendings t)

-- the uses of these options
abbrev pub count_of_uses : List Numbered → ℕ
count_of_uses [] = 0
count_of_uses (o ∷ os) = length o.uses + count_of_uses os

-- The Spends on the trail are no more than the uses of options that were taken and the items that were left out.
abbrev pub IsSparing : Puzzle → List Move → Type 0
IsSparing p t = spendings t + length (open_items p t) + count_of_uses (left p t) ≤ use_count p.options + primary_count p

-- ======== The levels of a search.

-- What a stack stands for.
pub record Levels : Type 0 where
  -- the newest first
  pub levels : List Level
  -- how many levels there is room for
  pub room : ℕ
  -- how many branches were ever begun
  pub begun : ℕ

-- something is left of each bound
abbrev pub AreAllWanted : List Wanted → Type 0
AreAllWanted ws = AllByRecursion (λ w. nat_lt 0 w.high ≡ true) ws

-- what these moves leave can be searched
pub record IsSearchable (p : Puzzle) (t : List Move) : Type 0 where
  pub valid : IsValid p
  pub legal : AreLegal p t
  pub wanted : AreAllWanted (wanted_after p t)
  pub sparing : IsSparing p t

-- and item i may be spent
pub record IsNode (p : Puzzle) (t : List Move) (i : ℕ) : Type 0 where
  pub searchable : IsSearchable p t
  pub item : IsPrimary p i
  pub is_open : is_open i t ≡ true

-- Item i, with n branches, may be branched on: each member of what is left begins with one of its branches, in their
-- order.
pub record MayBranch (p : Puzzle) (t : List Move) (i n : ℕ) : Type 0 where
  pub item : IsPrimary p i
  pub is_open : is_open i t ≡ true
  pub count : n ≡ branch_count (residual_of p t) (wanted_at p t i)
  pub lists : listing (residual_of p t) ≡ level listing (Some (wanted_at p t i)) (residual_of p t)

-- an item that may be branched on, with its number of branches; none where no primary item is open
pub record IsNext (p : Puzzle) (t : List Move) (o : Option (ℕ × ℕ)) : Type 0 where
  pub some : IfSome o (λ c. MayBranch p t c.0 c.1)
  pub none : o ≡ None → choice_after p t ≡ None

-- another open item is taken, with so many branches, one at most, where some item has none
pub record IsDeadEnd (p : Puzzle) (t : List Move) (o : Option (ℕ × ℕ)) : Type 0 where
  pub item : ℕ
  pub count : ℕ
  pub is : o ≡ Some (item, count)
  pub is_open : IsOpenPrimary p t item
  pub counted : count ≡ branches_after p t (wanted_at p t item)
  pub few : count ≤ 1
  pub short : ℕ
  pub short_open : IsOpenPrimary p t short
  pub without : branches_after p t (wanted_at p t short) ≡ 0

-- the branch item, or another where the way on is a dead end
abbrev pub IsEarlyChoice : Puzzle → List Move → Option (ℕ × ℕ) → Type 0
IsEarlyChoice p t o = (o ≡ choice_after p t) ⊎ IsDeadEnd p t o

-- the options left that hold item i
abbrev pub options_at : Puzzle → List Move → ℕ → List Numbered
options_at p t i = holding i (left p t)

-- the option that a level took last
abbrev pub option_taken : Puzzle → Level → Option ℕ
option_taken p l = option_at p l.item l.place

-- at place q of item i's list is its option, or the item's own node
abbrev pub IsPlace : Puzzle → ℕ → ℕ → Type 0
IsPlace p i q = q ≡ link_place p i (unwrap_or (option_at p i q) 0)

-- the option that a level took last, if it took one, uses its item at the level's place
pub record IsShown (p : Puzzle) (l : Level) : Type 0 where
  pub item : IsItem p l.item
  pub option : IfSome (option_taken p l) (λ x. IsUseAt p l.item x l.place)

-- A level that was begun on the moves u, below the moves t. Its base is before a branch.
pub record IsLevelAt (p : Puzzle) (u t : List Move) (l : Level) : Type 0 where
  pub within : (l.mark ≤ l.base) × (l.base ≤ length t)
  pub node : IsNode p u l.item
  pub count : l.count ≡ branch_count (residual_of p u) (wanted_at p u l.item)
  pub begun : l.begun ≤ l.count
  pub walking : l.walks ≡ walks p u l.item
  pub tweaks : l.tweaks ≡ (if l.walks then 0 else min l.begun (length (options_at p u l.item)))
  pub option : option_taken p l ≡ option_map (λ o. o.number) (numbered_get (options_at p u l.item) l.begun)
  pub place : IsPlace p l.item l.place
  pub base : oldest l.base t ≡ tweaked l.tweaks l.item (after_spend p l.item u)
  pub above : NoTweakAbove l.base t

-- a level of the newest moves
abbrev pub IsLevel : Puzzle → List Move → Level → Type 0
IsLevel p t l = IsLevelAt p (oldest l.mark t) t l

-- Each of the levels took an option or a primary item away: with what moves leave they are no more than there are.
abbrev pub IsShallow : Puzzle → List Move → List Level → Type 0
IsShallow p t ls = length ls + size_of (residual_of p t) ≤ option_count p + primary_count p

-- the levels, the newest first
abbrev pub AreStacked : Puzzle → List Move → List Level → Type 0
AreStacked p t [] = Unit {0}
AreStacked p t (l ∷ ls) = IsLevel p t l × IsShallow p (oldest l.mark t) ls × AreStacked p (oldest l.mark t) ls

-- the level's newest branch
abbrev pub chosen : Puzzle → Level → Choice
chosen p l = record { item = l.item; option = option_taken p l; k = l.begun; n = l.count }

-- the mark of the level's newest branch
abbrev pub mark_of : Level → Mark
mark_of l = record { item = l.item; place = l.place; k = l.begun; n = l.count }

-- the choices of levels, the newest first, in the order of the levels
abbrev pub choices_of : Puzzle → List Level → List Choice
choices_of p ls = map (chosen p) (reverse ls)

-- the branches of item i, of what moves leave
unfoldable pub branches_at : Puzzle → List Move → ℕ → List Branch
branches_at p t i = branches_of (residual_of p t) (wanted_at p t i)

-- the members of these branches, after the choices before them
abbrev pub branch_members : List Choice → List Branch → List (List Choice)
branch_members before bs = flat_map (λ b. map (λ m. before ++ b.choice ∷ m) (listing b.next)) bs

-- the members that are left at the levels, by the branches that weren't begun
abbrev pub to_give : Puzzle → List Move → List Level → List (List Choice)
to_give p t [] = []
to_give p t (l ∷ ls) =
    branch_members (choices_of p ls) (drop l.begun (branches_at p (oldest l.mark t) l.item)) ++ to_give p
    (oldest l.mark t) ls

-- and before those, if what is left wasn't searched yet, its members
abbrev pub coming : Puzzle → List Move → List Level → Bool → List (List Choice)
coming p t ls true = map (λ m. choices_of p ls ++ m) (listing (residual_of p t)) ++ to_give p t ls
coming p t ls false = to_give p t ls

-- the levels are sound, and what is left can be searched
pub record IsStanding (p : Puzzle) (t : List Move) (ls : List Level) (down : Bool) : Type 0 where
  pub stacked : AreStacked p t ls
  pub searchable : down ≡ true → IsSearchable p t
  pub shallow : down ≡ true → IsShallow p t ls

-- a level with no branch begun, by its mark, its base, its item, how many branches it has, and whether it walks
abbrev pub unbegun : ℕ → ℕ → ℕ → ℕ → Bool → Level
unbegun mark base i n w =
    record { mark = mark; base = base; item = i; place = i; begun = 0; count = n; tweaks = 0; walks = w }

-- the level that begins at item i, with n branches
abbrev pub first_level : Puzzle → List Move → ℕ → ℕ → Level
first_level p t i n = unbegun (length t) (length (after_spend p i t)) i n (walks p t i)

-- a level on whose moves a branch was begun
abbrev pub begun_level : Begun → Level → Level
begun_level b l = record l { base = b.base; place = b.place; begun = b.begun; tweaks = b.tweaks }

-- the newest of these levels began a branch
abbrev pub newest_begun : Begun → List Level → List Level
newest_begun b [] = []
newest_begun b (l ∷ ls) = begun_level b l ∷ ls

-- Only the moves of a level are there, and a branch wasn't begun yet.
pub record MayBegin (p : Puzzle) (t : List Move) (l : Level) : Type 0 where
  pub level : IsLevel p t l
  pub whole : l.base ≡ length t
  pub more : l.begun < l.count

-- From level l on moves t a branch was begun, and level k is on moves s.
pub record IsBegun (p : Puzzle) (t : List Move) (l : Level) (s : List Move) (k : Level) : Type 0 where
  pub branch : Branch
  pub at : slice_get (branches_at p (oldest l.mark t) l.item) l.begun ≡ Some branch
  pub next : residual_of p s ≡ branch.next
  pub choice : chosen p k ≡ branch.choice
  pub begun : k.begun ≡ suc l.begun
  pub mark : k.mark ≡ l.mark
  pub item : k.item ≡ l.item
  pub below : oldest l.mark s ≡ oldest l.mark t
  pub level : IsLevel p s k
  pub searchable : IsSearchable p s

-- the moves of a branch at item i: the other uses of the option that it takes are committed, or without one the item is
-- covered
abbrev pub after_branch : Puzzle → ℕ → Option ℕ → List Move → List Move
after_branch p i None t = after_none i t
after_branch p i (Some o) t = after_uses p (others i (uses_of p o)) t

-- option o is of the problem, and uses item i
pub record IsOptionAt (p : Puzzle) (i o : ℕ) : Type 0 where
  pub known : IsOption p o
  pub holds : place_in i (uses_of p o) < length (uses_of p o)
  pub items : All (λ (u : Use). IsItem p u.item) (uses_of p o)

-- The moves of a branch can be made after the moves t.
pub record CanBranch (p : Puzzle) (i : ℕ) (o : Option ℕ) (t : List Move) : Type 0 where
  pub item : IsItem p i
  pub option : IfSome o (IsOptionAt p i)
  pub stands : MayStand p (after_branch p i o t)

-- From level l on moves t a branch was entered: once its moves are after the moves s, it was begun with level k.
pub record IsEntered (p : Puzzle) (t : List Move) (l : Level) (s : List Move) (k : Level) : Type 0 where
  pub can : CanBranch p k.item (option_taken p k) s
  pub begun : IsBegun p t l (after_branch p k.item (option_taken p k) s) k

-- the number of the option that a level's next branch takes
abbrev pub next_number : Puzzle → List Move → Level → Option ℕ
next_number p t l = option_map (λ o. o.number) (slice_get (options_at p (oldest l.mark t) l.item) l.begun)

-- ======== How many levels a search has at most, and whether its bounds are all 1.

-- how often the primary items can be spent in all
abbrev pub high_total : Puzzle → ℕ
high_total p = sum_by (λ b. b.high) p.bounds

-- The most levels that a search has: each but the last takes an option or a primary item away, and each has a Spend
-- of its own.
abbrev pub most_levels : Puzzle → ℕ
most_levels p = min (option_count p + primary_count p) (high_total p)

-- how many primary items these uses hold
abbrev pub primary_uses : Puzzle → List Use → ℕ
primary_uses p us = count_by (λ u. nat_le u.item (primary_count p)) us

-- each primary item is to be held exactly once, and each option holds n of them
pub record IsEven (p : Puzzle) (n : ℕ) : Type 0 where
  pub once : IsOnce p
  pub each : AllByRecursion (λ us. primary_uses p us ≡ n) p.options
