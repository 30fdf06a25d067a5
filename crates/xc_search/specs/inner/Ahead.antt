-- What a search has ahead: its work, its paths and its moves.
-- No public contract rests on this file.
use Rattle.std.specs.Prelude.{ℕ, zero, suc, ◌+◌, ◌<◌, ◌≤◌, ◌≡◌, Bool, true, false, List, [], ◌∷◌, drop, length, None}
use Rattle.std.specs.Prelude.{◌-◌, ◌⊎◌, Option, Some, slice_get, map, reverse, Contains, ◌*◌, ◌++◌, flat_map}
use Rattle.xc_input.specs.Problem.{Puzzle}
use Rattle.xc_moves.specs.declared.dance.Move.{Move}
use Rattle.xc_moves.specs.Dancing.{Dancing, moves_made}
use Rattle.xc_moves.specs.Commits.{option_at}
use Rattle.xc_search.specs.inner.Levels.{size_of, residual_of, oldest, Levels, IsStanding, coming, choices_of}
use Rattle.xc_search.specs.inner.Levels.{branches_at, IsPlace, CanBranch, after_branch, chosen}
use Rattle.xc_search.specs.declared.level.Level.{Level}
use Rattle.xc_search.specs.Listing.{Residual, Branch, Wanted, branch_count, branch_item, level, listing}
use Rattle.xc_search.specs.Outlook.{shown_after}
use Rattle.xc_search.specs.Residuals.{choice_after, wanted_at}
use Rattle.xc_search.specs.Spans.{precedes}
use Rattle.xc_search.specs.Ends.{ends, ends_after}
use Rattle.xc_search.specs.Room.{room_for}

-- ======== How much work a search has ahead, and what a step of its loop does.

-- the work of these branches, each by the work of what it leaves
abbrev pub cost : (Residual → ℕ) → List Branch → ℕ
cost f [] = 0
cost f (b ∷ bs) = suc (f b.next + cost f bs)

-- n times m
abbrev pub times : ℕ → ℕ → ℕ
times zero m = 0
times (suc n) m = m + times n m

-- the work of what has this size, if no item has more branches than that
unfoldable pub work_of : ℕ → ℕ
work_of zero = 2
work_of (suc d) = times (suc d) (suc (work_of d)) + 2

-- no more nodes and levels are to be visited
unfoldable pub work : Residual → ℕ
work r = work_of (size_of r)

-- what the levels have still to visit by the branches that weren't begun
abbrev pub visits : Puzzle → List Move → List Level → ℕ
visits p t [] = 0
visits p t (l ∷ ls) =
    suc (cost work (drop l.begun (branches_at p (oldest l.mark t) l.item))) + visits p (oldest l.mark t) ls

-- and before that, where what is left wasn't searched yet, what that takes
abbrev pub ahead : Puzzle → List Move → List Level → Bool → ℕ
ahead p t ls true = work (residual_of p t) + visits p t ls
ahead p t ls false = visits p t ls

-- the same of a state and a stack
abbrev pub work_left : Dancing → Levels → Bool → ℕ
work_left d ls down = ahead d.puzzle d.trail ls.levels down

-- From levels ls in state d a search goes on at levels ks in state e, with nothing lost.
pub record GoesOn (d : Dancing) (ls : Levels) (down : Bool) (e : Dancing) (ks : Levels) (below : Bool) : Type 0 where
  -- only the moves and the levels changed
  pub still : (e ≡ record d { trail = e.trail; undone = e.undone })
      × (ks ≡ record ls { levels = ks.levels; begun = ks.begun })
  pub standing : IsStanding e.puzzle e.trail ks.levels below
  pub members : coming d.puzzle d.trail ls.levels down ≡ coming e.puzzle e.trail ks.levels below

-- the state once the moves of a branch at item i were made, of the option whose use is at place q
abbrev pub branched : Dancing → ℕ → ℕ → Dancing
branched e i q = record e { trail = after_branch e.puzzle i (option_at e.puzzle i q) e.trail }

-- It entered a branch, whose moves are still to be made: then it goes on with less work ahead.
pub record EntersBranch (d : Dancing) (ls : Levels) (down : Bool) (e : Dancing) (ks : Levels) (i q : ℕ) : Type 0 where
  pub can : CanBranch e.puzzle i (option_at e.puzzle i q) e.trail
  pub place : IsPlace e.puzzle i q
  pub goes_on : GoesOn d ls down (branched e i q) ks true
  pub less : work_left (branched e i q) ks true < work_left d ls down
  pub counted : ks.begun ≡ ls.begun + 1
  pub undone : e.undone ≤ moves_made d

-- It reached its end: nothing was left.
pub record IsDone (d : Dancing) (ls : Levels) (down : Bool) (e : Dancing) (ks : Levels) : Type 0 where
  pub still : (e ≡ record d { trail = e.trail; undone = e.undone })
      × (ks ≡ record ls { levels = ks.levels; begun = ks.begun })
  pub ended : ks.levels ≡ []
  pub members : coming d.puzzle d.trail ls.levels down ≡ []
  pub counted : ks.begun ≡ ls.begun
  pub made : moves_made e ≡ moves_made d

-- a solution is left: the choices of the levels are a member
pub record IsSolved (p : Puzzle) (t : List Move) (ls : List Level) : Type 0 where
  pub standing : IsStanding p t ls true
  pub none : choice_after p t ≡ None

-- It went over n members: the choices of ks are the last of them.
pub record WentOver (d : Dancing) (ls : Levels) (down : Bool) (n : ℕ) (e : Dancing) (ks : Levels) : Type 0 where
  pub still : (e ≡ record d { trail = e.trail; undone = e.undone })
      × (ks ≡ record ls { levels = ks.levels; begun = ks.begun })
  pub solved : IsSolved e.puzzle e.trail ks.levels
  pub come : coming e.puzzle e.trail ks.levels false ≡ drop n (coming d.puzzle d.trail ls.levels down)
  pub shown : choices_of e.puzzle ks.levels ≡ shown_after n (coming d.puzzle d.trail ls.levels down)
      (choices_of d.puzzle ls.levels)
  pub within : n ≤ length (coming d.puzzle d.trail ls.levels down)

-- It went over n members, and reached its end.
pub record WentPast (d : Dancing) (ls : Levels) (down : Bool) (n : ℕ) (e : Dancing) (ks : Levels) : Type 0 where
  pub still : (e ≡ record d { trail = e.trail; undone = e.undone })
      × (ks ≡ record ls { levels = ks.levels; begun = ks.begun })
  pub ended : ks.levels ≡ []
  pub count : n ≡ length (coming d.puzzle d.trail ls.levels down)

-- It was to go over so many members, and went over n. What is left was searched then.
pub record WentBy (d : Dancing) (ls : Levels) (down : Bool) (many n : ℕ) (e : Dancing) (ks : Levels) (below : Bool) :
    Type 0 where
  pub within : n ≤ many
  pub over : n ≡ many → WentOver d ls down many e ks
  pub past : n < many → WentPast d ls down n e ks
  pub searched : below ≡ false

-- ======== The paths that the levels of a search stand for.

-- item i is the branch item of what the moves leave
abbrev pub IsBranchItem : Puzzle → List Move → ℕ → Type 0
IsBranchItem p t i = branch_item (residual_of p t) ≡ Some (wanted_at p t i)

-- An item that is left has no branches, so what is left has no solution.
pub record IsStuck (r : Residual) : Type 0 where
  pub item : Wanted
  pub known : Contains r.items item
  pub sound : item.low ≤ item.high
  pub without : branch_count r item ≡ 0

-- exactly: item i is the branch item; else it lists what is left, and is the branch item, or has one branch at most
-- where some item has none
abbrev pub MayLead : Bool → Puzzle → List Move → ℕ → Type 0
MayLead true p t i = IsBranchItem p t i
MayLead false p t i =
    (listing (residual_of p t) ≡ level listing (Some (wanted_at p t i)) (residual_of p t))
    × (IsBranchItem p t i
    ⊎ (IsStuck (residual_of p t) × (branch_count (residual_of p t) (wanted_at p t i) ≤ 1)))

-- the level's newest branch is one of an item that may lead, and leaves what the moves t leave
pub record IsLed (exact : Bool) (p : Puzzle) (t : List Move) (l : Level) : Type 0 where
  pub leads : MayLead exact p (oldest l.mark t) l.item
  pub some : 0 < l.begun
  pub branch : Branch
  pub at : slice_get (branches_at p (oldest l.mark t) l.item) (l.begun - 1) ≡ Some branch
  pub choice : chosen p l ≡ branch.choice
  pub next : residual_of p t ≡ branch.next

-- from the moves u the newest branches of the levels lead to the moves t
abbrev pub AreLedBy : Bool → Puzzle → List Move → List Move → List Level → Type 0
AreLedBy exact p u t [] = t ≡ u
AreLedBy exact p u t (l ∷ ls) = IsLed exact p t l × AreLedBy exact p u (oldest l.mark t) ls

-- by the branch items alone
abbrev pub AreLed : Puzzle → List Move → List Move → List Level → Type 0
AreLed p u t ls = AreLedBy true p u t ls

-- Where levels ls led to state d, levels ks lead to state e from the same moves.
abbrev pub KeepsPath : Dancing → Levels → Dancing → Levels → Type 0
KeepsPath d ls e ks =
    (u : List Move) → AreLedBy false d.puzzle u d.trail ls.levels → AreLedBy false e.puzzle u e.trail ks.levels

-- And levels ks are of the branch items alone.
abbrev pub KeepsToItems : Dancing → Levels → Dancing → Levels → Type 0
KeepsToItems d ls e ks =
    (u : List Move) → AreLedBy false d.puzzle u d.trail ls.levels → AreLed e.puzzle u e.trail ks.levels

-- the numbers of the levels' branches, from the first level down
abbrev pub numbers : List Level → List ℕ
numbers ls = map (λ l. l.begun) (reverse ls)

-- levels ks are at a later row than levels ls
abbrev pub AreLater : Levels → Levels → Type 0
AreLater ls ks = precedes (numbers ls.levels) (numbers ks.levels) ≡ true

-- ======== The moves that a search may still make, by the ends of its tree.

-- the ends after these branches
abbrev pub ends_of : List Branch → List Bool
ends_of bs = flat_map (λ b. ends b.next) bs

-- the ends after the branches of the levels that weren't begun
abbrev pub ends_behind : Puzzle → List Move → List Level → List Bool
ends_behind p t [] = []
ends_behind p t (l ∷ ls) =
    ends_of (drop l.begun (branches_at p (oldest l.mark t) l.item)) ++ ends_behind p (oldest l.mark t) ls

-- and before them, where what is left wasn't searched yet, its own
abbrev pub ends_ahead : Puzzle → List Move → List Level → Bool → List Bool
ends_ahead p t ls true = ends (residual_of p t) ++ ends_behind p t ls
ends_ahead p t ls false = ends_behind p t ls

-- what is left takes no more than the moves on the trail if it is a solution, and else what its ends may take
abbrev pub here : Option Wanted → ℕ → ℕ → ℕ
here None stand may = stand
here (Some w) stand may = may

-- how many moves will have been undone at most, once all was searched and undone
abbrev pub due : Dancing → Levels → Bool → ℕ
due d ls true = d.undone + (here (branch_item (residual_of d.puzzle d.trail)) (length d.trail)
    (room_for d.puzzle * length (ends (residual_of d.puzzle d.trail)))
    + room_for d.puzzle * length (ends_behind d.puzzle d.trail ls.levels))
due d ls false = d.undone + (length d.trail + room_for d.puzzle * length (ends_behind d.puzzle d.trail ls.levels))

-- From levels ls in state d, where m solutions were to be passed over, it came to levels ks in state e, where n are:
-- the ends after them are the same, and no more moves are due.
pub record Pays (d : Dancing) (ls : Levels) (down : Bool) (m : ℕ) (e : Dancing) (ks : Levels) (below : Bool) (n : ℕ) :
    Type 0 where
  pub ends : ends_after (suc m) (ends_ahead d.puzzle d.trail ls.levels down)
      ≡ ends_after (suc n) (ends_ahead e.puzzle e.trail ks.levels below)
  pub due : due e ks below ≤ due d ls down

-- It went over so many solutions: the ends after them are left, and those before them paid for the moves.
pub record PaysFor (d : Dancing) (ls : Levels) (down : Bool) (many : ℕ) (e : Dancing) (ks : Levels) : Type 0 where
  pub ends : ends_after many (ends_ahead d.puzzle d.trail ls.levels down)
      ≡ ends_ahead e.puzzle e.trail ks.levels false
  pub made : moves_made e + room_for d.puzzle * length (ends_ahead e.puzzle e.trail ks.levels false)
      ≤ moves_made d + room_for d.puzzle * length (ends_ahead d.puzzle d.trail ls.levels down)
