-- The moves of a level of a search, where an option's nodes are, and its first primary item.
-- Public contracts rest on this file: readers must believe it.
use Rattle.std.specs.Prelude.{ℕ, ◌+◌, ◌-◌, ◌<◌, ◌≤◌, ◌≡◌, ◌⊎◌, ◌==◌, nat_le, Option, Some, None, option_map, unwrap_or}
use Rattle.std.specs.Prelude.{slice_get, List, [], ◌∷◌, ◌++◌, length, take, drop, if◌then◌else◌, All, Contains}
use Rattle.xc_input.specs.UsePlaces.{place_in}
use Rattle.xc_input.specs.declared.problem.Use.{Use}
use Rattle.xc_moves.specs.declared.dance.Move.{Move}
use Rattle.xc_moves.specs.declared.dance.Move.TheVariants.{Cover, Purify, Spend}
use Rattle.xc_input.specs.Problem.{Puzzle, IsItem, IsOption, primary_count, high_at, uses_of}
use Rattle.xc_moves.specs.Moves.{is_open, spends, AreLegal, listed_numbers}
use Rattle.xc_moves.specs.Places.{Node, spacer, used, layout, link_place}

-- item i is spent, and covered where nothing is left of its bound
abbrev pub after_spend : Puzzle → ℕ → List Move → List Move
after_spend p i t = if high_at p i - spends i (Spend i ∷ t) == 0 then Cover i ∷ Spend i ∷ t else Spend i ∷ t

-- a use of a taken option is committed
abbrev pub after_use : Puzzle → Use → List Move → List Move
after_use p u t =
    if nat_le u.item (primary_count p) then after_spend p u.item t
    else (if u.colour == 0 then Cover u.item ∷ t
    else (if is_open u.item t then Purify u.item u.colour ∷ t else t))

-- uses of a taken option are committed in turn
abbrev pub after_uses : Puzzle → List Use → List Move → List Move
after_uses p [] t = t
after_uses p (u ∷ us) t = after_uses p us (after_use p u t)

-- the uses after that of item i, and then those before it
abbrev pub others : ℕ → List Use → List Use
others i us = drop (place_in i us + 1) us ++ take (place_in i us) us

-- the moves are legal, and there is room for them
pub record CanStand (p : Puzzle) (room : ℕ) (t : List Move) : Type 0 where
  pub legal : AreLegal p t
  pub fits : length t ≤ room

-- the number of the option that a node is of
abbrev pub number_of : Node → ℕ
number_of (spacer n) = n
number_of (used n u) = n
number_of _ = 0

-- the option whose node is at place q of item i's list; none at the item's own node
abbrev pub option_at : Puzzle → ℕ → ℕ → Option ℕ
option_at p i q = if q == i then None else Some (unwrap_or (option_map number_of (slice_get (layout p) q)) 0)

-- option x is in the list of item i after moves t, and its node is at place q; item i's own node for x = 0
pub record IsListedAt (p : Puzzle) (t : List Move) (i x q : ℕ) : Type 0 where
  pub listed : (x ≡ 0) ⊎ Contains (listed_numbers p t i) x
  pub at : q ≡ link_place p i x

-- option x uses item i, and its node is at place q
pub record IsUseAt (p : Puzzle) (i x q : ℕ) : Type 0 where
  pub known : IsOption p x
  pub holds : place_in i (uses_of p x) < length (uses_of p x)
  pub items : All (λ (u : Use). IsItem p u.item) (uses_of p x)
  pub at : q ≡ link_place p i x

-- the trail once the other uses of option x were committed, from that of item i on
abbrev pub after_option : Puzzle → ℕ → ℕ → List Move → List Move
after_option p i x t = after_uses p (others i (uses_of p x)) t

-- the first primary item of these uses; 0 where there is none
abbrev pub first_primary : Puzzle → List Use → ℕ
first_primary p [] = 0
first_primary p (u ∷ us) = if nat_le u.item (primary_count p) then u.item else first_primary p us
