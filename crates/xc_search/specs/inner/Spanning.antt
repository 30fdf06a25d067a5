-- A search, step by step, of all or of a span.
-- No public contract rests on this file.
use Rattle.std.specs.Prelude.{ℕ, ◌+◌, ◌*◌, ◌<◌, ◌≡◌, ◌≢◌, Bool, true, false, List, [], ◌∷◌, ◌++◌, length, Option, ◌-◌}
use Rattle.std.specs.Prelude.{◌≤◌, ◌⊎◌, ◌^◌, filter, not}
use Rattle.std.specs.List.{AllByRecursion}
use Rattle.xc_search.specs.declared.choice.Choice.{Choice}
use Rattle.xc_search.specs.declared.level.Level.{Level}
use Rattle.xc_search.specs.declared.ran.Ran.{Ran}
use Rattle.xc_search.specs.declared.ran.Stop.{Stop}
use Rattle.xc_search.specs.declared.ran.Stop.TheVariants.{Member, Steps, Row, Nothing}
use Rattle.xc_input.specs.Problem.{Puzzle}
use Rattle.xc_moves.specs.Dancing.{Dancing, moves_made}
use Rattle.xc_search.specs.Room.{room_for}
use Rattle.xc_moves.specs.Commits.{option_at}
use Rattle.xc_search.specs.Spans.{row_of, precedes, is_before, between}
use Rattle.xc_search.specs.inner.Levels.{Levels, IsStanding, AreStacked, IsPlace, CanBranch, choices_of, coming}
use Rattle.xc_search.specs.inner.Levels.{most_levels}
use Rattle.xc_search.specs.inner.Ahead.{IsSolved, work_left, branched, AreLed, AreLedBy, KeepsPath, AreLater, numbers}

-- the row of the levels
abbrev pub row_at : Puzzle → List Level → List ℕ
row_at p ls = row_of (choices_of p ls)

-- the members from a row on
abbrev pub from_on : List ℕ → List (List Choice) → List (List Choice)
from_on row ms = filter (λ m. not (precedes (row_of m) row)) ms

-- the row from which on the search goes on: that of the levels, or the one right after it where it is at a
-- solution
abbrev pub row_from : Puzzle → List Level → Bool → List ℕ
row_from p ls true = row_at p ls
row_from p ls false = row_at p ls ++ 0 ∷ []

-- Where the branches of a level are entered from this one on, those before it come before the end of a span.
abbrev pub LeavesOut : Option (List ℕ) → Puzzle → List Level → ℕ → Type 0
LeavesOut until p ls first =
    (k : ℕ) → 0 < k → k < first → (x : List ℕ) → is_before until (row_at p ls ++ k ∷ x) ≡ true

-- The row of the levels comes before the end of a span, and so does all below them, unless last is the greatest
-- number, and what is left out below.
pub record IsRest (until : Option (List ℕ)) (p : Puzzle) (ls : List Level) (last first : ℕ) : Type 0 where
  pub before : is_before until (row_at p ls) ≡ true
  pub all : last < 2 ^ 64 - 1 → (x : List ℕ) → is_before until (row_at p ls ++ x) ≡ true
  pub leaves : LeavesOut until p ls first

-- Of the members ms that were to come it passed over the first, which come before the end of the span, and ns are left.
-- Where it enters the branches of a level from the first on, of m that it was to pass over n are still to be.
pub record PassesOver (first : ℕ) (until : Option (List ℕ)) (m n : ℕ) (ms ns : List (List Choice)) : Type 0 where
  pub passed : List (List Choice)
  pub members : ms ≡ passed ++ ns
  pub before : AllByRecursion (λ x. is_before until (row_of x) ≡ true) passed
  pub count : first ≡ 1 → m ≡ length passed + n

-- Nothing is left below the levels ls in state d, and the search is at them, as levels ks, in state e.
pub record Falls (first : ℕ) (until : Option (List ℕ)) (d : Dancing) (ls : Levels) (m : ℕ) (e : Dancing)
    (ks : Levels) (n : ℕ) : Type 0 where
  pub still : (e ≡ record d { trail = e.trail; undone = e.undone }) × (ks ≡ ls)
  pub standing : IsStanding e.puzzle e.trail ks.levels false
  pub path : KeepsPath d ls e ks
  pub less : work_left e ks false ≤ work_left d ls true
  pub over : PassesOver first until m n (coming d.puzzle d.trail ls.levels true)
      (coming e.puzzle e.trail ks.levels false)
  pub made : moves_made e ≤ d.undone + room_for d.puzzle

-- a level was begun by this branch, or there are no more levels than before
abbrev pub GoesDown : ℕ → Levels → Levels → Type 0
GoesDown first ls ks =
    (length ks.levels ≤ length ls.levels) ⊎ (numbers ks.levels ≡ numbers ls.levels ++ first ∷ [])

-- From levels ls in state d it began a branch.
pub record BeginsBranch (first : ℕ) (until : Option (List ℕ)) (d : Dancing) (ls : Levels) (m : ℕ)
    (e : Dancing) (ks : Levels) (n : ℕ) : Type 0 where
  pub still : (e ≡ record d { trail = e.trail; undone = e.undone })
      × (ks ≡ record ls { levels = ks.levels; begun = ks.begun })
  pub standing : IsStanding e.puzzle e.trail ks.levels true
  pub path : KeepsPath d ls e ks
  pub rises : AreLater ls ks
  pub down : GoesDown first ls ks
  pub less : work_left e ks true < work_left d ls true
  pub over : PassesOver first until m n (coming d.puzzle d.trail ls.levels true)
      (coming e.puzzle e.trail ks.levels true)
  pub counted : ks.begun ≡ ls.begun + 1
  -- all that it undid was on the trail at once
  pub undone : e.undone ≤ d.undone + room_for d.puzzle

-- It entered a branch, whose moves are still to be made.
pub record Enters (first : ℕ) (until : Option (List ℕ)) (d : Dancing) (ls : Levels) (m : ℕ) (e : Dancing)
    (ks : Levels) (n i q : ℕ) : Type 0 where
  pub can : CanBranch e.puzzle i (option_at e.puzzle i q) e.trail
  pub place : IsPlace e.puzzle i q
  pub begins : BeginsBranch first until d ls m (branched e i q) ks n

-- All levels ended.
pub record Ends (first : ℕ) (until : Option (List ℕ)) (d : Dancing) (ls : Levels) (m : ℕ) (e : Dancing)
    (ks : Levels) (n : ℕ) : Type 0 where
  pub still : (e ≡ record d { trail = e.trail; undone = e.undone })
      × (ks ≡ record ls { levels = ks.levels; begun = ks.begun })
  pub ended : ks.levels ≡ []
  pub over : PassesOver first until m n (coming d.puzzle d.trail ls.levels true) []

-- From levels ls in state d it began so many branches, and is at levels ks in state e, where what is left wasn't
-- looked at yet.
pub record Stands (first : ℕ) (until : Option (List ℕ)) (d : Dancing) (ls : Levels) (m : ℕ) (e : Dancing)
    (ks : Levels) (n begun : ℕ) : Type 0 where
  pub still : (e ≡ record d { trail = e.trail; undone = e.undone })
      × (ks ≡ record ls { levels = ks.levels; begun = ks.begun })
  pub standing : IsStanding e.puzzle e.trail ks.levels true
  pub path : KeepsPath d ls e ks
  pub over : PassesOver first until m n (coming d.puzzle d.trail ls.levels true)
      (coming e.puzzle e.trail ks.levels true)
  pub same : begun ≡ 0 → (e ≡ d) × (ks ≡ ls) × (n ≡ m)
  pub later : 0 < begun → AreLater ls ks
  pub down : begun ≡ 1 → GoesDown first ls ks
  pub counted : ks.begun ≡ ls.begun + begun
  pub undone : e.undone ≤ d.undone + room_for d.puzzle * begun

-- What a run passes over is seen against this end: its own, or any other where it goes one step of the way to a row.
abbrev pub IsSeenBy : Bool → Option (List ℕ) → Option (List ℕ) → ℕ → ℕ → Puzzle → List Level → Type 0
IsSeenBy way u until first steps p ls =
    (u ≡ until) ⊎ ((way ≡ true) × (steps ≡ 1) × (is_before u (row_at p ls) ≡ true) × LeavesOut u p ls first)

-- One run came so far: it began so many branches, no more than it was to, if that is bound.
pub record RunsTo (bound : Bool) (first : ℕ) (u until : Option (List ℕ)) (d : Dancing) (ls : Levels) (m most : ℕ)
    (stop : Stop) (e : Dancing) (ks : Levels) (n steps : ℕ) : Type 0 where
  pub begun : ℕ
  pub bounded : bound ≡ true → begun + steps ≡ most
  pub stands : stop ≢ Nothing → Stands first u d ls m e ks n begun
  pub before : (stop ≡ Member) ⊎ (stop ≡ Steps) → is_before until (row_at e.puzzle ks.levels) ≡ true
  pub solved : stop ≡ Member → (n ≡ 0) × IsSolved e.puzzle e.trail ks.levels
  pub ran_out : stop ≡ Steps → (bound ≡ true) × (steps ≡ 0)
  pub past : stop ≡ Row → (bound ≡ true) × (is_before until (row_at e.puzzle ks.levels) ≡ false)
  pub ended : stop ≡ Nothing → Ends first u d ls m e ks n
  pub counted : ks.begun ≡ ls.begun + begun
  pub made : moves_made e ≤ d.undone + room_for d.puzzle * (begun + 1)

-- Seen against each end that it may be seen against, one bounded run came so far: on the way to a row, or off it.
abbrev pub Runs : Bool → ℕ → Option (List ℕ) → Dancing → Levels → ℕ → ℕ → Dancing → Levels → Ran → Type 0
Runs way first until d ls m most e ks ran =
    (u : Option (List ℕ)) → IsSeenBy way u until first most d.puzzle ls.levels
    → RunsTo true first u until d ls m most ran.stop e ks ran.more ran.steps

-- A run may begin at levels ls in state d.
pub record CanRun (until : Option (List ℕ)) (d : Dancing) (ls : Levels) : Type 0 where
  pub standing : IsStanding d.puzzle d.trail ls.levels true
  pub levels_fit : most_levels d.puzzle ≤ ls.room
  pub before : is_before until (row_at d.puzzle ls.levels) ≡ true

-- A way to a row begins in state d, which has no moves, where there are no levels.
pub record CanGoTo (d : Dancing) (ls : Levels) : Type 0 where
  pub standing : IsStanding d.puzzle d.trail ls.levels true
  pub levels_fit : most_levels d.puzzle ≤ ls.room
  pub none : ls.levels ≡ []
  pub unmoved : d.trail ≡ []

-- It began no more than so many branches, and for each of them and for each of so many ways it made no more moves than
-- can be on the trail at once.
pub record TakesWay (ways most : ℕ) (d : Dancing) (ls : Levels) (e : Dancing) (ks : Levels) : Type 0 where
  pub begun : ℕ
  pub counted : ks.begun ≡ ls.begun + begun
  pub few : begun ≤ most
  pub made : moves_made e ≤ moves_made d + room_for d.puzzle * (begun + ways)

-- It came to a row that doesn't come before this one, with no member from it on between, and by so many branches more
-- than that has numbers. Or no such row was found, and no member from it on was to come.
pub record Reaches (exact : Bool) (more : ℕ) (from : List ℕ) (d : Dancing) (ls : Levels) (e : Dancing) (ks : Levels)
    (found : Bool) : Type 0 where
  pub still : (e ≡ record d { trail = e.trail; undone = e.undone })
      × (ks ≡ record ls { levels = ks.levels; begun = ks.begun })
  pub stacked : AreStacked e.puzzle e.trail ks.levels
  pub standing : found ≡ true → IsStanding e.puzzle e.trail ks.levels true
  pub led : found ≡ true → AreLedBy exact e.puzzle [] e.trail ks.levels
  pub reached : found ≡ true → precedes (row_at e.puzzle ks.levels) from ≡ false
  pub kept : found ≡ true → from_on from (coming d.puzzle d.trail ls.levels true)
      ≡ from_on from (coming e.puzzle e.trail ks.levels true)
  pub none : found ≡ false → from_on from (coming d.puzzle d.trail ls.levels true) ≡ []
  pub way : TakesWay (1 + more) (length from + more) d ls e ks

-- From the row of levels ls in state d it came to that row or to the next one of the search's tree, with no member
-- between. Or no such row was found, and no member was to come.
pub record Settles (d : Dancing) (ls : Levels) (e : Dancing) (ks : Levels) (found : Bool) : Type 0 where
  pub still : (e ≡ record d { trail = e.trail; undone = e.undone })
      × (ks ≡ record ls { levels = ks.levels; begun = ks.begun })
  pub stacked : AreStacked e.puzzle e.trail ks.levels
  pub standing : found ≡ true → IsStanding e.puzzle e.trail ks.levels true
  pub led : found ≡ true → AreLed e.puzzle [] e.trail ks.levels
  pub row : found ≡ true → precedes (numbers ks.levels) (numbers ls.levels) ≡ false
  pub members : found ≡ true → coming d.puzzle d.trail ls.levels true ≡ coming e.puzzle e.trail ks.levels true
  pub none : found ≡ false → coming d.puzzle d.trail ls.levels true ≡ []
  pub way : TakesWay 1 1 d ls e ks

-- From levels ls in state d it began so many branches, and halts at levels ks in state e, at a row of the search's
-- tree.
pub record Halts (until : Option (List ℕ)) (d : Dancing) (ls : Levels) (m : ℕ) (e : Dancing) (ks : Levels)
    (n begun : ℕ) : Type 0 where
  pub still : (e ≡ record d { trail = e.trail; undone = e.undone })
      × (ks ≡ record ls { levels = ks.levels; begun = ks.begun })
  pub standing : IsStanding e.puzzle e.trail ks.levels true
  pub led : AreLed e.puzzle [] e.trail ks.levels
  pub over : PassesOver 1 until m n (coming d.puzzle d.trail ls.levels true)
      (coming e.puzzle e.trail ks.levels true)
  pub same : begun ≡ 0 → (e ≡ d) × (ks ≡ ls) × (n ≡ m)
  pub later : 0 < begun → AreLater ls ks

-- It came to the end of its span: of m members n weren't there.
pub record EndsSpan (d : Dancing) (ls : Levels) (m : ℕ) (until : Option (List ℕ)) (e : Dancing) (ks : Levels) (n : ℕ) :
    Type 0 where
  pub still : (e ≡ record d { trail = e.trail; undone = e.undone })
      × (ks ≡ record ls { levels = ks.levels; begun = ks.begun })
  pub stacked : AreStacked e.puzzle e.trail ks.levels
  pub count : m ≡ n + length (between d.puzzle (row_at d.puzzle ls.levels) until)

-- It began so many branches: it is at a member, ran out of steps, or came to the end.
pub record RanTo (d : Dancing) (ls : Levels) (m most : ℕ) (until : Option (List ℕ)) (stop : Stop) (e : Dancing)
    (ks : Levels) (n steps : ℕ) : Type 0 where
  pub begun : ℕ
  pub bounded : begun + steps ≡ most
  pub halts : (stop ≡ Member) ⊎ (stop ≡ Steps) → Halts until d ls m e ks n begun
  pub before : (stop ≡ Member) ⊎ (stop ≡ Steps) → is_before until (row_at e.puzzle ks.levels) ≡ true
  pub solved : stop ≡ Member → (n ≡ 0) × IsSolved e.puzzle e.trail ks.levels
  pub ran_out : stop ≡ Steps → steps ≡ 0
  pub ended : (stop ≡ Row) ⊎ (stop ≡ Nothing) → EndsSpan d ls m until e ks n
  -- and one more at most, to come to a row of the search's tree
  pub more : ℕ
  pub counted : ks.begun ≡ ls.begun + begun + more
  pub few : more ≤ 1
  pub none : 0 < steps → more ≡ 0
  pub made : moves_made e ≤ moves_made d + room_for d.puzzle * (begun + more + 2)
