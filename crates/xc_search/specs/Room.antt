-- How many moves of a search are on the trail at most.
-- Public contracts rest on this file: readers must believe it.
use Rattle.std.specs.Prelude.{ℕ}
use Rattle.xc_input.specs.Problem.{Puzzle}
use Rattle.xc_moves.specs.Dancing.{search_room}

-- the room of a dance that a search never fills
abbrev pub room_for : Puzzle → ℕ
room_for p = search_room p
