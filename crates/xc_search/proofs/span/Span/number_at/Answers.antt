use Rattle.std.proofs.Common.{ℕ, List, sym, ap, ◌∙◌}
use Rattle.std.specs.Prelude.{slice_get}
use Rattle.std.proofs.lemmas.List.{reverse-reverse}
use Rattle.std.proofs.Common.{reverse, map}
use Rattle.xc_search.specs.declared.level.Level.{Level}
use Rattle.xc_search.proofs.RowLemmas.{numbers_told, branches_told}
use Rattle.xc_search.proofs.SpanSteps.{row_levels}
use Rattle.xc_search.proofs.span.Span.number_at.Goals as goal

pub returns-clause-number : goal.returns-clause-number
returns-clause-number g c =
    let s = c.self.inside.state in
    let ls = s.stack.levels in
    rw (← c.self.view_is) (rw c.if-self.false
    (c.number_of.ensures.number
    ∙ ap (λ (xs : List ℕ). slice_get xs c.args.place) (numbers_told s.position.puzzle ls c.self.inside.unsearched _
    (row_levels s.position.puzzle c.levels.result.now ls c.levels.ensures.levels))))

pub returns-clause-branches : goal.returns-clause-branches
returns-clause-branches g c =
    let s = c.self.inside.state in
    let ls = s.stack.levels in
    rw (← c.self.view_is) (rw c.if-self.false
    (c.number_of.ensures.branches
    ∙ ap (λ (xs : List ℕ). slice_get xs c.args.place) (branches_told s.position.puzzle s.position.trail ls
    c.self.inside.unsearched _ c.self.invariant.stacked (c.self.invariant.led c.if-self.false)
    (c.self.invariant.solved c.if-self.false)
    (ap (map (λ (l : Level). l.count))
    (sym (reverse-reverse c.levels.result.now) ∙ ap reverse c.levels.ensures.levels)))))
