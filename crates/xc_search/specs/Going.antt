-- What a call of `Span::go_on` comes to.
-- Public contracts rest on this file: readers must believe it.
use Rattle.std.specs.Prelude.{ℕ, ◌+◌, ◌<◌, ◌≤◌, ◌≡◌, ◌⊎◌, true, false, [], ◌++◌, length, None, IfSome, IsSome}
use Rattle.std.specs.Prelude.{IsSomeAnd}
use Rattle.xc_search.specs.declared.went.Halt.TheVariants.{Member, End, Steps}
use Rattle.xc_search.specs.declared.went.Went.{Went}
use Rattle.xc_search.specs.Outlook.{shown_after}
use Rattle.xc_search.specs.Listing.{whole}
use Rattle.xc_search.specs.Spans.{precedes, is_before, between}
use Rattle.xc_search.specs.InSpan.{InSpan, left_of, reached, MovesFew}
use Rattle.xc_search.specs.Nodes.{IsRowOf}

-- It passed the members between its rows, so many of them and by so many steps. Each step is a branch that it began;
-- where it ran out of steps, it may have begun one more, to come to a row of the tree.
pub record PassesBy (many steps : ℕ) (went : Went) (s n : InSpan) : Type 0 where
  pub passed : IfSome s.row (λ from. left_of s ≡ between s.puzzle from (reached n) ++ left_of n)
  pub count : IfSome s.row (λ from. length (between s.puzzle from (reached n)) ≡ went.members)
  pub within : (went.steps ≤ steps) × (went.members ≤ many)
  pub begun : (more : ℕ) × (n.begun ≡ s.begun + went.steps + more)
      × (more ≤ 1) × (went.steps < steps → more ≡ 0)
  pub moves : MovesFew s n

-- It halted at the last of so many members, at the end, or out of steps.
pub record HaltsAt (many steps : ℕ) (went : Went) (s n : InSpan) : Type 0 where
  pub member : went.halt ≡ Member → (went.members ≡ many) × (n.shown ≡ shown_after many (left_of s) s.shown)
  pub end : went.halt ≡ End → (n.row ≡ None) × (n.shown ≡ [])
  pub fewer : 0 < many → went.halt ≡ End → went.members < many
  pub ran_out : went.halt ≡ Steps → IsSome n.row × (n.shown ≡ []) × (went.steps ≡ steps) × (went.members < many)
  pub ended : s.row ≡ None → (went.halt ≡ End) × (went.members ≡ 0) × (n.row ≡ None)

-- Its row is one of the tree, a later one unless it had nothing to do, and not after the span's end.
pub record ComesToRow (many steps : ℕ) (went : Went) (s n : InSpan) : Type 0 where
  pub node : IfSome n.row (λ row. IsRowOf (whole n.puzzle) row)
  pub later : 0 < many → 0 < steps → IfSome s.row (λ from. IfSome n.row (λ row. precedes from row ≡ true))
  pub stays : steps ≡ 0 → n.row ≡ s.row
  pub stands : (went.halt ≡ Member) ⊎ (went.halt ≡ Steps)
      → IsSomeAnd n.row (λ row. IfSome n.until (λ until. precedes until row ≡ false))
  pub before : 0 < steps → went.halt ≡ Steps → IfSome n.row (λ row. is_before n.until row ≡ true)

-- From s to n a search went on by at most so many members and steps.
pub record WentOnBy (many steps : ℕ) (went : Went) (s n : InSpan) : Type 0 where
  pub still : n ≡ record s { row = n.row; shown = n.shown; made = n.made; begun = n.begun }
  pub passes : PassesBy many steps went s n
  pub halts : HaltsAt many steps went s n
  pub comes : ComesToRow many steps went s n
