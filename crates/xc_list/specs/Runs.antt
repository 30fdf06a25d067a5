-- What a run writes, and its end.
-- Public contracts rest on this file: readers must believe it.
use Rattle.std.specs.Prelude.{ℕ, ◌+◌, ◌-◌, ◌*◌, ◌≤◌, ◌≡◌, Bool, true, nat_lt, List, [], length, Some}
use Rattle.std.specs.Prelude.{Result, MatchResult, if◌then◌else◌}
use Rattle.xc_text.specs.Texts.{Seen, SinkState, Took, BrokeOff, Behind}
use Rattle.xc_text.specs.declared.memory.Memory.{Memory}
use Rattle.xc_search.specs.declared.choice.Choice.{Choice}
use Rattle.xc_input.specs.Problem.{Puzzle, numbered_get}
use Rattle.xc_search.specs.Cover.{members}
use Rattle.xc_search.specs.Ends.{ends, ends_after}
use Rattle.xc_search.specs.Listing.{whole}
use Rattle.xc_search.specs.Room.{room_for}
use Rattle.xc_input.specs.Named.{Named}
use Rattle.xc_list.specs.Output.{member_text, is_printed, output}
use Rattle.xc_list.specs.declared.ends.End.{End}
use Rattle.xc_list.specs.declared.ends.End.TheVariants.{Done, Limit, WriteFailed}

-- The sink took the texts of the members that are printed before this one, and broke off in this one's.
pub record StoppedAt (a : Named) (spacing limit t : ℕ) (old new : SinkState) : Type 0 where
  pub within : (1 ≤ t) × (t ≤ limit)
  pub member : List Choice
  pub is_member : numbered_get (members a.puzzle) t ≡ Some member
  pub printed : is_printed spacing t ≡ true
  pub stopped : Behind (output a spacing (t - 1)) BrokeOff old new (member_text a (t, member))

-- How a run ends where no write fails: by the limit where there are as many members, else after the last one
abbrev pub end_of : Named → ℕ → End
end_of a limit = if nat_lt (length (members a.puzzle)) limit then Done (length (members a.puzzle)) else Limit limit

-- What was written up to this end, from one state of the sink to another
abbrev pub IsRun : Named → ℕ → ℕ → SinkState → SinkState → End → Type 0
IsRun a spacing limit old new (WriteFailed t) = StoppedAt a spacing limit t old new
IsRun a spacing limit old new end = (end ≡ end_of a limit) × Took old new (output a spacing limit)

-- What a run answers: its end, with what was written up to it; or, where there was no memory for the search, the sink
-- wasn't touched.
abbrev pub AnswersRun : {S : Type 0} → Named → ℕ → ℕ → Seen S SinkState → Seen S SinkState → Result End Memory → Type 0
AnswersRun a spacing limit old new r = MatchResult r (IsRun a spacing limit old.state new.state) (λ _. new ≡ old)

-- how many members a run had reached when it ended
abbrev pub solutions_found : End → ℕ
solutions_found (Done n) = n
solutions_found (Limit n) = n
solutions_found (WriteFailed n) = n

-- the ends of the search's tree that are left where a run ended: those after the member that it had reached
abbrev pub ends_left : Puzzle → End → List Bool
ends_left p (Done n) = []
ends_left p end = ends_after (solutions_found end) (ends (whole p))

-- A run that ended so took its dance from so many moves ever made to so many: no more, for each end of the search's
-- tree up to that member, than can be on the trail at once.
abbrev pub RunMakesFew : Puzzle → ℕ → ℕ → End → Type 0
RunMakesFew p old new end = new + room_for p * length (ends_left p end) ≤ old + room_for p * length (ends (whole p))
