-- `at` and `ran` say where the search stood and what `go_over` made of it (`RanTo`). By where it stopped, each answer
-- is one lemma about such a run: at a member (`went_to_member`), at the span's end (`went_to_end`), or where its steps
-- were used (`went_to_row`). The two subtractions don't wrap, since no more members were passed than asked for
-- (`all_passed`, `fewer_passed`).
use Rattle.std.proofs.Common.{◌≡◌, false, [], refl, ap, sym, ◌∙◌, arith}
use Rattle.std.specs.Prelude.{option_map}
use Rattle.xc_search.specs.inner.Spanning.{RanTo}
use Rattle.xc_search.proofs.SpanRuns.{IsAt, over_first}
use Rattle.xc_search.proofs.SpanHalts.{went_to_member, went_to_row, went_to_end, fewer_passed, all_passed}
use Rattle.xc_search.proofs.span.Span.advance.Goals as goal
use Rattle.xc_search.proofs.span.Span.advance.Goals.{After-go_over-ran}
use Rattle.xc_search.proofs.span.Span.advance.Goals.{then-self, else-self}

module _ (g : _) (c : After-go_over-ran g) where
  goes : c.self.inside.ended ≡ false
  goes = grind (arith, c.requires.row, c.self.view_is)

  at : IsAt c.self.inside.state.position.puzzle c.self.inside.state.position.trail
      c.self.inside.state.stack.levels c.self.inside.unsearched
  at = record { led = c.self.invariant.led goes; solved = c.self.invariant.solved goes }

  over : c.if-self.over ≡ over_first c.args.many c.self.inside.unsearched
  over = elim c.if-self.branch [
    | then-self w ↦ w.over-is ∙ ap (over_first c.args.many) (sym w.if-self.true)
    | else-self w ↦ w.over-is ∙ ap (over_first c.args.many) (sym w.if-self.false)
  ]

  ran : RanTo c.self.inside.state.position c.self.inside.state.stack (over_first c.args.many c.self.inside.unsearched)
      c.args.steps (option_map (λ u. u.now) c.self.inside.until) c.go_over-ran.result.stop
      c.go_over-ran.new.state.position c.go_over-ran.new.state.stack c.go_over-ran.result.more
      c.go_over-ran.result.steps
  ran = rw over at c.go_over-ran.ensures

pub overflow_sub-many-in-Row : goal.overflow_sub-many-in-Row
overflow_sub-many-in-Row g c =
    let r = (goal.at.overflow_sub-many-in-Row g c).After-go_over-ran in
    omega (
      arith,
      all_passed _ _ (at g r) (c.self.invariant.before (goes g r)) [] (ran g r) c.requires.members
          c.requires.steps c.in-Row.is,
    )

pub overflow_sub-many-in-Steps-2 : goal.overflow_sub-many-in-Steps-2
overflow_sub-many-in-Steps-2 g c =
    let r = (goal.at.overflow_sub-many-in-Steps-2 g c).After-go_over-ran in
    omega (
      arith,
      fewer_passed _ _ (at g r) (c.self.invariant.before (goes g r)) [] (ran g r) c.requires.members
          c.requires.steps c.in-Steps.is,
    )

pub returns-in-Member : goal.returns-in-Member
returns-in-Member g c =
    let r = (goal.at.returns-in-Member g c).After-go_over-ran in
    rw (c.at.ensures, ← c.self.view_is, goes g r) (went_to_member _ _ (at g r)
    (c.self.invariant.before (goes g r)) _ (ran g r) c.requires.members c.requires.steps c.in-Member.is _
    refl)

pub returns-in-Row : goal.returns-in-Row
returns-in-Row g c =
    let r = (goal.at.returns-in-Row g c).After-go_over-ran in
    rw (c.at-in-Row.ensures, ← c.self.view_is, goes g r) (went_to_end _ _ (at g r)
    (c.self.invariant.before (goes g r)) _ (ran g r) c.requires.members c.requires.steps c.in-Row.is _
    refl)

pub returns-in-Steps : goal.returns-in-Steps
returns-in-Steps g c =
    let r = (goal.at.returns-in-Steps g c).After-go_over-ran in
    rw (c.at-in-Steps.ensures, ← c.self.view_is, goes g r) (went_to_row _ _ (at g r)
    (c.self.invariant.before (goes g r)) _ (ran g r) c.requires.members c.requires.steps c.in-Steps.is _
    refl)
