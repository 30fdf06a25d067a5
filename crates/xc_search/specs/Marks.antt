-- The marks of a solution, by which two of its choices are known to be the same.
-- Public contracts rest on this file: readers must believe it.
use Rattle.std.specs.Prelude.{IfSome}
use Rattle.xc_input.specs.Problem.{Puzzle, IsItem}
use Rattle.xc_moves.specs.Commits.{IsUseAt, option_at}
use Rattle.xc_search.specs.declared.choice.Choice.{Choice}
use Rattle.xc_search.specs.declared.marks.Mark.{Mark}

-- the choice of a mark: its option is the one whose use of the item is at the mark's place
abbrev pub marked : Puzzle → Mark → Choice
marked p m = record { item = m.item; option = option_at p m.item m.place; k = m.k; n = m.n }

-- A mark's option, if it has one, uses its item at the mark's place.
pub record IsMark (p : Puzzle) (m : Mark) : Type 0 where
  pub item : IsItem p m.item
  pub option : IfSome (option_at p m.item m.place) (λ x. IsUseAt p m.item x m.place)
