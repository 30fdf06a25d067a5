-- What a keeper of a dance stands for.
-- Public contracts rest on this file: readers must believe it.
use Rattle.std.specs.Prelude.{ℕ, ◌+◌, ◌*◌, List, length}
use Rattle.xc_moves.specs.declared.dance.Move.{Move}
use Rattle.xc_input.specs.Problem.{Puzzle, item_count, use_count}

-- A dance: the problem that it was built from, the moves on the trail, the newest first, how many moves the trail has
-- room for, and how many moves were undone. Each move ever made is on the trail or was undone.
pub record Dancing : Type 0 where
  pub puzzle : Puzzle
  pub trail : List Move
  pub room : ℕ
  pub undone : ℕ

-- how many moves were ever made
abbrev pub moves_made : Dancing → ℕ
moves_made d = d.undone + length d.trail

-- room for all moves that a search has on the trail at once: twice the items and twice the uses
abbrev pub search_room : Puzzle → ℕ
search_room p = 2 * item_count p + 2 * use_count p.options
