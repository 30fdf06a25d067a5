-- The invariant: the levels' row is what of `from` was read so far, and no member was passed on the way (`Reaching`).
-- `next` says what the next number asks for, and `ran` what one step of the search did by it. By the outcomes: no level
-- is left (`reaches_none`); the row is no longer one of `from`, and so comes after it (`row_past`, `row_past_zero`); or
-- it grew by the number (`row_more`, `row_grows`), and the loop goes on.
use Rattle.std.proofs.lemmas.Grind.{common_steps}
use Rattle.std.proofs.lemmas.List.{length-reverse}
use Rattle.std.proofs.Common.{ℕ, ◌≡◌, ◌+◌, ◌<◌, ◌⊎◌, Some, None, true, false, length, take, get_or}
use Rattle.std.proofs.Common.{refl, sym, ap, ◌∙◌, arith}
use Rattle.xc_search.specs.Spans.{precedes}
use Rattle.xc_search.specs.declared.ran.Stop.TheVariants.{Member, Steps, Row}
use Rattle.xc_search.specs.inner.Spanning.{RunsTo, Stands}
use Rattle.xc_search.proofs.SpanSteps.{reaches_on, reaches_there, reaches_none, starts_reaching, led_nowhere}
use Rattle.xc_search.proofs.SpanSteps.{numbers_row}
use Rattle.xc_search.proofs.SpanHalts.{IsNextNumber, next_number, seen_before, row_past, row_past_zero, row_more}
use Rattle.xc_search.proofs.SpanHalts.{row_grows}
use Rattle.xc_search.proofs.RowLemmas.{not_itself}
use Rattle.xc_search.proofs.SpanRuns.{step_stands}
use Rattle.xc_search.proofs.spanning.reach_early.Goals as goal
use Rattle.xc_search.proofs.spanning.reach_early.Goals.{After-replace_with}
use Rattle.xc_search.proofs.spanning.reach_early.Goals.{then-levels-via-then-levels}
use Rattle.xc_search.proofs.spanning.reach_early.Goals.{then-levels-via-else-levels+then-number-eq0}

module _ (g : _) (c : After-replace_with g) where
  abbrev number : ℕ
  number = get_or c.args.from.now c.loop-number.number-index 0

  next : IsNextNumber c.args.from.now c.loop-number.state.stack number c.max.result
  next = next_number c.args.from.now c.loop-number.state.stack c.loop-number.number-index number c.max.result
      c.loop-number.invariant.row c.loop-number-test.true refl
      (λ h. omega (arith, h, c.max.ensures)) (λ h. omega (arith, h, c.max.ensures))

  ran : RunsTo true c.max.result (Some c.args.from.now) None c.loop-number.state.position
      c.loop-number.state.stack 1 1 c.replace_with.result.stop c.replace_with.new.dest.position
      c.replace_with.new.dest.stack c.replace_with.result.more c.replace_with.result.steps
  ran = c.replace_with.ensures (Some c.args.from.now) (seen_before next c.loop-number.state.position.puzzle)

  stands : (c.replace_with.result.stop ≡ Member) ⊎ ((c.replace_with.result.stop ≡ Steps)
      ⊎ (c.replace_with.result.stop ≡ Row)) → Stands c.max.result (Some c.args.from.now)
      c.loop-number.state.position c.loop-number.state.stack 1 c.replace_with.new.dest.position
      c.replace_with.new.dest.stack c.replace_with.result.more 1
  stands is = step_stands ran is

pub returns-in-Nothing : goal.returns-in-Nothing
returns-in-Nothing g c =
    let run = ran g (goal.at.returns-in-Nothing g c).After-replace_with in
    reaches_none c.loop-number.invariant.reaching run c.in-Nothing.is
    (omega (arith, c.loop-number.invariant.few, c.loop-number-test.true, run.bounded refl))

pub returns-then-levels : goal.returns-then-levels
returns-then-levels g c =
    let at = (goal.at.returns-then-levels g c).After-replace_with in
    let s = stands g at c.in-Member.is in
    let on = reaches_on c.loop-number.invariant.reaching s in
    let p = c.replace_with.new.dest.position.puzzle in
    let ks = c.replace_with.new.dest.stack in
    let later = s.later (omega arith) in
    let past : precedes _ c.args.from.now ≡ false = elim c.then-levels.branch [
      | then-levels-via-then-levels w ↦ row_past (next g at) ks p later (omega (
        arith,
        w.if-levels.true,
        ap length c.levels.ensures.levels,
        length-reverse c.levels.result.now,
        ap length c.levels-levels.ensures.levels,
        length-reverse c.levels-levels.result.now,
      ))
      | then-levels-via-else-levels+then-number-eq0 w ↦
          row_past_zero (next g at) ks p later (s.down refl) (omega (arith, w.if-number-eq0.true))
    ] in
    reaches_there on (omega (arith, c.loop-number.invariant.few, c.loop-number-test.true)) past

pub loop-number-preserved : goal.loop-number-preserved
loop-number-preserved g c =
    let at = (goal.at.loop-number-preserved g c).After-replace_with in
    let s = stands g at c.in-Member.is in
    let ks = c.replace_with.new.dest.stack in
    let more : length c.loop-number.state.stack.levels < length ks.levels = omega (
      arith,
      c.if-levels.false,
      ap length c.levels.ensures.levels,
      length-reverse c.levels.result.now,
      ap length c.levels-levels.ensures.levels,
      length-reverse c.levels-levels.result.now,
    ) in
    let grown = row_more (next g at) ks (s.down refl) more (omega (arith, c.if-number-eq0.false)) in
    record {
      begun = c.loop-number.invariant.begun + 1;
      reaching = reaches_on c.loop-number.invariant.reaching s;
      row = row_grows c.args.from.now c.loop-number.state.stack c.replace_with.new.dest.stack
          c.loop-number.number-index (number g at) c.loop-number.invariant.row c.loop-number-test.true refl grown;
      few = omega (arith, c.loop-number.invariant.few);
    }

pub returns : goal.returns
returns g c =
    let from = c.args.from.now in
    let whole : take c.loop-number.number-index from ≡ from = grind (arith, common_steps) in
    let past : precedes _ from ≡ false =
    ap (λ r. precedes r from) (sym (numbers_row c.loop-number.state.position.puzzle c.loop-number.state.stack.levels)
    ∙ c.loop-number.invariant.row ∙ whole) ∙ not_itself from in
    reaches_there c.loop-number.invariant.reaching (omega (arith, c.loop-number.invariant.few)) past

pub loop-number-init : goal.loop-number-init
loop-number-init g c = record {
  begun = 0;
  reaching = starts_reaching _ _ _ c.requires.start.standing
      (led_nowhere _ c.requires.start.none c.requires.start.unmoved);
  row = rw c.requires.start.none refl;
  few = omega arith;
}
