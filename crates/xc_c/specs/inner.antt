-- What the steps of a call answer, and how much work a count is.
-- No public contract rests on this file.
use Rattle.std.specs.Prelude.{ℕ, nat_lt, Option, None, Some, if◌then◌else◌, ◌+◌, ◌*◌, ◌≤◌, length}
use Rattle.xc_input.specs.declared.fault.InputError.{InputError}
use Rattle.xc_input.specs.declared.fault.InputError.TheVariants.{Fault}
use Rattle.xc_input.specs.Problem.{Puzzle}
use Rattle.xc_search.specs.Ends.{ends, ends_after}
use Rattle.xc_search.specs.Listing.{whole}
use Rattle.xc_search.specs.Room.{room_for}
use Rattle.xc_list.specs.declared.ends.End.{End}
use Rattle.xc_list.specs.declared.ends.End.TheVariants.{Done, Limit, WriteFailed}

-- ======== The statuses of what the steps of a call answer.

-- the status where no problem was read: 2 for a fault, 4 for lack of memory
abbrev pub error_status : InputError → ℕ
error_status (Fault line fault) = 2
error_status _ = 4

-- the status of a run that came to this end, and wrote so many bytes for a buffer with this room; none where a write
-- failed for lack of memory
abbrev pub listing_status : End → ℕ → ℕ → Option ℕ
listing_status (WriteFailed t) length room = if nat_lt length room then None else Some 3
listing_status (Done n) length room = Some (if nat_lt room length then 3 else 0)
listing_status (Limit n) length room = Some (if nat_lt room length then 3 else 5)

-- ======== How much work a count up to a limit is.

-- A count up to a limit made so many moves: for each end of the search's tree up to the limit's solution, no more than
-- can be on the trail at once.
abbrev pub CountMakesFew : Puzzle → ℕ → ℕ → Type 0
CountMakesFew p limit made =
    made + room_for p * length (ends_after limit (ends (whole p))) ≤ room_for p * length (ends (whole p))
