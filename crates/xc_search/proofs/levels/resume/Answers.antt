-- The invariant: what the levels that are left have still to give is what all levels had (`GoesOn`), and the same of
-- their paths, rows and moves. A level without a further branch ends, and has nothing to give (`back`, by `finished`);
-- `visits` becomes smaller. A level with one enters it: `entered` says what the search has then, of which each clause
-- of `resumed` takes a part.
use Rattle.xc_search.proofs.LoopSteps.{finished, GoesOn-trans, goes_on_to, unwound, EntersNext, enters_next}
use Rattle.std.proofs.Common.{◌<◌, ◌≤◌, ◌∷◌, ◌∙◌, drop, true, false, refl, ap, arith}
use Rattle.xc_search.specs.inner.Levels.{Levels, AreStacked}
use Rattle.xc_search.specs.inner.Ahead.{GoesOn, visits}
use Rattle.xc_search.proofs.SpanSteps.{oldest_all, oldest_fewer, rises_next, no_more_levels, led_again}
use Rattle.xc_search.proofs.EndLemmas.{Pays-trans, pays_next, pays_back}
use Rattle.xc_search.proofs.levels.resume.Goals as goal
use Rattle.xc_search.proofs.levels.resume.Goals.{In-Some, After-note_branch, After-pop}

pub loop-level-init : goal.loop-level-init
loop-level-init g c = grind (arith, oldest_all)

stacked : (g : _) (c : In-Some g) → AreStacked c.loop-level.position.puzzle c.loop-level.position.trail
    (c.in-Some.level.now ∷ drop 1 c.loop-level.stack.levels)
stacked g c = rw c.in-Some.ensures.some at c.loop-level.invariant.goes_on.standing.stacked

pub enter_next-branch-requires-clause-stacked : goal.enter_next-branch-requires-clause-stacked
enter_next-branch-requires-clause-stacked g c = grind (arith, stacked)

pub enter_next-branch-requires-clause-more : goal.enter_next-branch-requires-clause-more
enter_next-branch-requires-clause-more g c = c.if-level.true

-- a level without a further branch has ended, and less is left
back : (g : _) (c : After-pop g)
    → GoesOn c.loop-level.position c.loop-level.stack false c.end_level.new.position c.pop.new.self false
    × (visits c.end_level.new.position.puzzle c.end_level.new.position.trail c.pop.new.self.levels < visits
    c.loop-level.position.puzzle c.loop-level.position.trail c.loop-level.stack.levels)
back g c = grind (arith, finished)

-- the level's next branch was entered
entered : (g : _) (c : After-note_branch g)
    → EntersNext c.loop-level.position c.enter_next-branch.new.position c.in-Some.level.now c.enter_next-branch.result
    c.loop-level.stack c.note_branch.new.self
entered g c =
    enters_next c.loop-level.position c.enter_next-branch.new.position c.in-Some.level.now c.enter_next-branch.result
    c.loop-level.stack c.note_branch.new.self c.loop-level.invariant.goes_on.standing.stacked c.in-Some.ensures.some
    c.enter_next-branch.ensures.still (omega (arith, c.enter_next-branch.ensures.undone))
    c.enter_next-branch.ensures.entered c.note_branch.ensures

pub returns-then-level-clause-resumed : goal.returns-then-level-clause-resumed
returns-then-level-clause-resumed g c =
    goes_on_to _ _ _ _ _ _ false false _ _ c.loop-level.invariant.goes_on c.loop-level.invariant.less
    c.loop-level.invariant.begun (omega (arith, c.loop-level.invariant.made))
    (entered g (goal.at.returns-then-level-clause-resumed g c).After-note_branch).0

pub returns-then-level-clause-resumed_path : goal.returns-then-level-clause-resumed_path
returns-then-level-clause-resumed_path g c = λ u a.
    let led = rw c.in-Some.ensures.some at (c.loop-level.invariant.path u a) in
    (entered g (goal.at.returns-then-level-clause-resumed_path g c).After-note_branch).1 false u led.0.leads led.1

pub returns-then-level-clause-resumed_items : goal.returns-then-level-clause-resumed_items
returns-then-level-clause-resumed_items g c = λ u a.
    let level = (stacked g (goal.at.returns-then-level-clause-resumed_items g c).In-Some).0 in
    let led = rw c.in-Some.ensures.some at (c.loop-level.invariant.path u a) in
    let items = led_again _ u _ c.in-Some.level.now (drop 1 c.loop-level.stack.levels) level c.if-level.true led in
    (entered g (goal.at.returns-then-level-clause-resumed_items g c).After-note_branch).1 true u items.0 items.1

pub returns-then-level-clause-resumed_row : goal.returns-then-level-clause-resumed_row
returns-then-level-clause-resumed_row g c = grind (arith, rises_next)

pub returns-then-level-clause-resumed_levels : goal.returns-then-level-clause-resumed_levels
returns-then-level-clause-resumed_levels g c = grind (arith, no_more_levels)

pub loop-level-smaller : goal.loop-level-smaller
loop-level-smaller g c = (back g c).1

pub loop-level-preserved : goal.loop-level-preserved
loop-level-preserved g c =
    let is = c.loop-level.invariant in
    let ended : c.in-Some.level.now.count ≤ c.in-Some.level.now.begun = omega (arith, c.if-level.false) in
    record {
      goes_on = GoesOn-trans _ _ _ _ _ _ _ _ _ is.goes_on (back g c).0;
      path = λ u a. grind arith;
      oldest = oldest_fewer c.in-Some.level.now _ _ _ c.in-Some.ensures.some
          (ap (λ (s : Levels). s.levels) c.pop.ensures) is.oldest;
      pays = λ m. Pays-trans (is.pays m) (pays_back c.loop-level.position c.end_level.new.position
          c.in-Some.level.now c.loop-level.stack c.pop.new.self is.goes_on.standing.stacked c.in-Some.ensures.some
          ended c.end_level.ensures c.pop.ensures m);
      less = omega (arith, is.less, (back g c).1);
      begun = ap (λ (s : Levels). s.begun) c.pop.ensures ∙ is.begun;
      made = omega (
        arith,
        is.made,
        (unwound c.loop-level.position c.loop-level.position c.end_level.new.position
            c.in-Some.level.now c.loop-level.stack c.pop.new.self refl refl is.goes_on.standing.stacked
            c.in-Some.ensures.some c.end_level.ensures c.pop.ensures).1,
      );
    }

pub returns-then-level-clause-resumed_pays : goal.returns-then-level-clause-resumed_pays
returns-then-level-clause-resumed_pays g c = λ m.
    Pays-trans (c.loop-level.invariant.pays m) (pays_next c.loop-level.position c.enter_next-branch.new.position
    c.in-Some.level.now c.enter_next-branch.result c.loop-level.stack c.note_branch.new.self
    c.loop-level.invariant.goes_on.standing.stacked c.in-Some.ensures.some c.enter_next-branch.ensures.still
    c.enter_next-branch.ensures.undone c.enter_next-branch.ensures.entered c.note_branch.ensures m)
