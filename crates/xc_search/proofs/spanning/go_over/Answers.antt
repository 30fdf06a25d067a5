use Rattle.std.proofs.Common.{◌∙◌, sym, ap, inl, inr, refl, []}
use Rattle.std.specs.Prelude.{option_map}
use Rattle.xc_search.specs.Spans.{is_before}
use Rattle.xc_search.proofs.SpanSteps.{row_levels, led_by}
use Rattle.xc_search.proofs.SpanRuns.{ran_to, settled, settled_behind, settled_nowhere}
use Rattle.xc_search.proofs.spanning.go_over.Goals as goal

pub run_by-ran-requires : goal.run_by-ran-requires
run_by-ran-requires g c =
    record { can = c.requires.can; first = refl }

pub settle-requires-clause-led : goal.settle-requires-clause-led
settle-requires-clause-led g c =
    let ran = c.run_by-ran.ensures _ (inl refl) in
    (ran.stands (λ e. absurd (cc (c.in-Steps.is, e)))).path [] (led_by _ _ _ _ c.requires.led)

pub returns-in-Member : goal.returns-in-Member
returns-in-Member g c =
    ran_to c.requires.led (c.run_by-ran.ensures _ (inl refl)) (λ e. elim c.in-Member.is [
      | inl i ↦ absurd (cc (i, e))
      | inr j ↦ elim j [
        | inl i ↦ absurd (cc (i, e))
        | inr i ↦ absurd (cc (i, e))
      ]
    ])

pub returns-then-not-settle : goal.returns-then-not-settle
returns-then-not-settle g c =
    settled_nowhere c.requires.led (c.run_by-ran.ensures _ (inl refl)) c.in-Steps.is c.requires.some
    c.settle.ensures
    c.if-not-settle.true

pub returns-then-is_before : goal.returns-then-is_before
returns-then-is_before g c =
    let row = row_levels c.settle.new.state.position.puzzle c.levels.result.now c.settle.new.state.stack.levels
    c.levels.ensures.levels in
    settled c.requires.led (c.run_by-ran.ensures _ (inl refl)) c.in-Steps.is c.requires.some
    c.settle.ensures
    c.if-not-settle.false
    (ap (is_before (option_map (λ u. u.now) c.args.until)) (sym row) ∙ sym c.is_before.ensures ∙ c.if-is_before.true)

pub returns-else-is_before : goal.returns-else-is_before
returns-else-is_before g c =
    let row = row_levels c.settle.new.state.position.puzzle c.levels.result.now c.settle.new.state.stack.levels
    c.levels.ensures.levels in
    settled_behind c.requires.led (c.run_by-ran.ensures _ (inl refl)) c.in-Steps.is c.requires.some
    c.settle.ensures
    c.if-not-settle.false
    (ap (is_before (option_map (λ u. u.now) c.args.until)) (sym row) ∙ sym c.is_before.ensures ∙ c.if-is_before.false)
