use Rattle.std.proofs.lemmas.Grind.{common_steps}
use Rattle.std.proofs.Common.{◌≡◌, ◌+◌, ◌-◌, length, drop, ap, ◌∙◌, arith}
use Rattle.xc_moves.specs.Dancing.{Dancing}
use Rattle.xc_search.specs.inner.Levels.{oldest}
use Rattle.xc_search.proofs.LoopSteps.{ended_level, unwound, ends_tweaks}
use Rattle.xc_search.proofs.levels.unwind.Goals as goal
use Rattle.xc_search.proofs.levels.unwind.Goals.{After-undo_to-in-Some, then-level-gt0, else-level-gt0}

ended : (g : _) (c : After-undo_to-in-Some g) → c.undo_to-in-Some.new.self ≡ record c.loop-level.position {
  trail = oldest c.in-Some.level.now.mark c.loop-level.position.trail;
  undone = c.loop-level.position.undone + (length c.loop-level.position.trail - c.in-Some.level.now.mark);
}
ended g c =
    let l = c.in-Some.level.now in
    let back = λ (s : Dancing). record s
    { trail = oldest l.mark s.trail; undone = s.undone + (length s.trail - l.mark) } in
    let freed = λ (s : Dancing). record s { trail = drop l.tweaks s.trail; undone = s.undone + l.tweaks } in
    let stacked = rw c.in-Some.ensures.some at c.loop-level.invariant.stacked in
    elim c.if-level-gt0.branch [
      | then-level-gt0 w ↦
          c.undo_to-in-Some.ensures ∙ ap back (w.position-is ∙ w.undo_tweaks.ensures ∙ ap freed w.undo_to.ensures)
          ∙ ended_level c.loop-level.position.puzzle c.loop-level.position l (drop 1 c.loop-level.stack.levels) stacked
      | else-level-gt0 w ↦ c.undo_to-in-Some.ensures ∙ ap back w.position-is
    ]

pub loop-level-preserved : goal.loop-level-preserved
loop-level-preserved g c =
    let on = unwound c.args.position.now c.loop-level.position c.undo_to-in-Some.new.self c.in-Some.level.now
    c.loop-level.stack c.pop.new.self c.loop-level.invariant.still c.loop-level.invariant.made
    c.loop-level.invariant.stacked c.in-Some.ensures.some
    (ended g (goal.at.loop-level-preserved g c).After-undo_to-in-Some) c.pop.ensures in
    grind arith

pub undo_tweaks-requires : goal.undo_tweaks-requires
undo_tweaks-requires g c = grind (arith, common_steps, ends_tweaks)

pub undo_to-requires-in-Some : goal.undo_to-requires-in-Some
undo_to-requires-in-Some g c = grind (arith, common_steps, ends_tweaks)

pub returns : goal.returns
returns g c = grind arith
