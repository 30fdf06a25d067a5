-- The invariant: the row so far has the numbers and branches of the levels so far. `told` adds the last number where
-- the search stands at a solution, for numbers and for branches alike. `numbers` and `branches` are then what the
-- definitions say of a row (`numbers_told`, `branches_told`), and `told_row` puts them into the clauses.
use Rattle.std.proofs.lemmas.Grind.{common_steps}
use Rattle.std.proofs.Common.{ℕ, ◌≡◌, List, [], ◌∷◌, ◌++◌, map, take, cond, reverse}
use Rattle.std.proofs.Common.{Vec, Global, ap₂, refl, sym, ap, ◌∙◌, arith}
use Rattle.std.proofs.lemmas.List.{map-append, reverse-reverse}
use Rattle.xc_search.specs.declared.level.Level.{Level}
use Rattle.xc_search.specs.declared.span.RowNumber.{RowNumber}
use Rattle.xc_input.specs.Problem.{Puzzle}
use Rattle.xc_search.specs.Listing.{whole}
use Rattle.xc_search.specs.InSpan.{InSpan, branches_along}
use Rattle.xc_search.specs.inner.Spanning.{row_from}
use Rattle.xc_search.proofs.RowLemmas.{numbers_told, branches_told}
use Rattle.xc_search.proofs.SpanSteps.{row_levels}
use Rattle.xc_search.proofs.SpanHalts.{told_row}
use Rattle.xc_search.proofs.span.Span.row.Goals as goal
use Rattle.xc_search.proofs.span.Span.row.Goals.{then-not-self, else-not-self, Joined-not-self}

module _ (g : _) (c : Joined-not-self g) where
  abbrev p : Puzzle
  p = c.self.inside.state.position.puzzle

  abbrev ls : List Level
  ls = c.self.inside.state.stack.levels

  all : (f : Level → ℕ) → map f (take c.loop-level.level-index c.levels-levels.result.now)
      ≡ map f c.levels-levels.result.now
  all f = grind (arith, common_steps)

  -- a last number where it stands at a solution
  told : (f : RowNumber → ℕ) (h : Level → ℕ) → f (record { k = 0; n = 0 }) ≡ 0
      → map f c.loop-level.row.items ≡ map h (take c.loop-level.level-index c.levels-levels.result.now) →
      map f c.if-not-self.row.items
      ≡ cond c.self.inside.unsearched (map h c.levels-levels.result.now) (map h c.levels-levels.result.now ++ 0 ∷ [])
  told f h zero is = elim c.if-not-self.branch [
    | then-not-self w ↦
        let items = ap (λ (v : Vec RowNumber Global). map f v.items) w.row-is
        ∙ ap (map f) w.push_reserved-then-not-self.ensures.items
        ∙ map-append f c.loop-level.row.items (record { k = 0; n = 0 } ∷ [])
        ∙ ap₂ (λ xs x. xs ++ x ∷ []) (is ∙ all h) zero in
        rw w.if-not-self.true items
    | else-not-self w ↦
        let items = ap (λ (v : Vec RowNumber Global). map f v.items) w.row-is ∙ is ∙ all h in
        rw w.if-not-self.false items
  ]

  numbers : map (λ (x : RowNumber). x.k) c.if-not-self.row.items ≡ row_from p ls c.self.inside.unsearched
  numbers =
      told (λ (x : RowNumber). x.k) (λ (l : Level). l.begun) refl c.loop-level.invariant.numbers
      ∙ numbers_told p ls c.self.inside.unsearched _
      (row_levels p c.levels-levels.result.now ls c.levels-levels.ensures.levels)

  branches : map (λ (x : RowNumber). x.n) c.if-not-self.row.items
      ≡ branches_along (whole p) (row_from p ls c.self.inside.unsearched)
  branches =
      told (λ (x : RowNumber). x.n) (λ (l : Level). l.count) refl c.loop-level.invariant.branches
      ∙ branches_told p c.self.inside.state.position.trail ls c.self.inside.unsearched _ c.self.invariant.stacked
      (c.self.invariant.led c.if-self.false) (c.self.invariant.solved c.if-self.false)
      (ap (map (λ (l : Level). l.count))
      (sym (reverse-reverse c.levels-levels.result.now) ∙ ap reverse c.levels-levels.ensures.levels))

pub returns-clause-numbers : goal.returns-clause-numbers
returns-clause-numbers g c = told_row c.args.self.now _ _ _ _ _ _ _ _ c.self.view_is c.if-self.false _ (numbers g c)

pub returns-clause-branches : goal.returns-clause-branches
returns-clause-branches g c =
    let puzzle = ap (λ (s : InSpan). s.puzzle) c.self.view_is in
    told_row c.args.self.now _ _ _ _ _ _ _ _ c.self.view_is c.if-self.false _ (rw (← puzzle) (branches g c))
