-- Where the nodes of a problem are in the linked tables, by the problem alone.
-- Public contracts rest on this file: readers must believe it.
use Rattle.std.specs.Prelude.{ℕ, zero, suc, ◌+◌, Bool, ◌==◌, nat_lt, List, [], ◌∷◌, ◌++◌, length, map, flat_map}
use Rattle.std.specs.Prelude.{unwrap_or, sum_by, take}
use Rattle.std.specs.List.{list_any, range_with_len, find}
use Rattle.xc_input.specs.declared.problem.Use.{Use}
use Rattle.xc_input.specs.Problem.{Puzzle, Numbered, numbered_options, item_count, uses_of}
use Rattle.xc_input.specs.UsePlaces.{place_in}

-- ---- The places of the node table

-- What is at a place of the node table. A spacer is after the option of its number, that of 0 before the
-- first.
pub data Node : Type 0 where
  unused : Node
  own : (item : ℕ) → Node
  spacer : (number : ℕ) → Node
  used : (number : ℕ) (use_of : Use) → Node

-- the nodes of an option's uses in order, and the spacer after them
abbrev pub nodes_of : Numbered → List Node
nodes_of o = map (λ u. used o.number u) o.uses ++ spacer o.number ∷ []

-- nothing at place 0, the items' own nodes, the first spacer, and each option's nodes with the spacer after them
abbrev pub layout : Puzzle → List Node
layout p = unused ∷ map own (range_with_len 1 (item_count p)) ++ spacer 0 ∷ flat_map nodes_of (numbered_options p)

-- where the spacer after option o is, after the nodes and the spacers of the options up to it; the first for 0
abbrev pub spacer_place : Puzzle → ℕ → ℕ
spacer_place p o = item_count p + 1 + sum_by (λ us. length us + 1) (take o p.options)

-- where option o's node is in item i's list, after the spacer before the option; the item's own node for o = 0
abbrev pub link_place : Puzzle → ℕ → ℕ → ℕ
link_place p i zero = i
link_place p i (suc n) = spacer_place p n + 1 + place_in i (uses_of p (suc n))

-- ---- Neighbours, in lists of numbers that rise

-- the first number above n, or else none
abbrev pub first_above : ℕ → ℕ → List ℕ → ℕ
first_above other n ns = unwrap_or (find (λ k. nat_lt n k) ns) other

-- the number is one of these
abbrev pub is_in : ℕ → List ℕ → Bool
is_in n ns = list_any (λ k. k == n) ns
