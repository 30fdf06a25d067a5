-- `opened` says what `descend` made of the search: a level of `item` was opened (`Opens`). The loop passes over
-- branches that are left out: the invariant's `step` (`Stepped`) says so of those before the one entered last, and
-- `pays` what the first one costs. By outcome: no item is left (`solved`), too few branches (`ends_at_once`,
-- `pays_nothing`), or a branch is entered (`enters_at`). Clauses with `pays` are about moves, the others about what is
-- still to come.
use Rattle.std.proofs.Common.{arith, ◌≡◌, refl, ap}
use Rattle.xc_search.proofs.BranchLemmas.{opens_moved, early_leads}
use Rattle.xc_search.proofs.MoveLemmas.{plain_above, plain_after_spend}
use Rattle.xc_search.proofs.LoopSteps.{depth_at, Opens, node_at, deepens}
use Rattle.xc_search.proofs.SpanHalts.{opens_stays, may_go_on, step_on, stays_on, enters_at, ends_at_once}
use Rattle.xc_search.proofs.EndLemmas.{pays_first, pays_nothing}
use Rattle.xc_search.proofs.levels.deepen.Goals as goal
use Rattle.xc_search.proofs.levels.deepen.Goals.{In-Some, After-descend-level}
use Rattle.xc_search.specs.declared.levels.Entered.{Entered}
use Rattle.xc_search.specs.declared.levels.Below.TheVariants.{Branch}

same_branch : (a b : Entered) → Branch a ≡ Branch b → a ≡ b
same_branch a b is = cc

opened : (g : _) (c : After-descend-level g) → Opens c.args.position.now c.descend-level.new.self c.args.stack.now
    c.in-Some.item c.in-Some.count c.descend-level.result
opened g c = grind (arith)

pub returns-in_default-clause-solved : goal.returns-in_default-clause-solved
returns-in_default-clause-solved g c _ = c.requires.next.none c.in_default.is

pub descend-level-requires : goal.descend-level-requires
descend-level-requires g c = grind (arith, node_at)

pub push-requires : goal.push-requires
push-requires g c = grind (arith, opened, depth_at, node_at)

pub undo_to-requires-clause-other : goal.undo_to-requires-clause-other
undo_to-requires-clause-other g c = grind (arith, opened, plain_above, plain_after_spend, deepens)

pub returns-then-count-first-clause-nothing : goal.returns-then-count-first-clause-nothing
returns-then-count-first-clause-nothing g c _ until leaves m =
    ends_at_once (opened g (goal.at.returns-then-count-first-clause-nothing g c).After-descend-level)
    c.undo_to.new.self c.undo_to.ensures c.args.first until m c.if-count-first.true leaves

pub returns-then-count-first-clause-nothing_pays : goal.returns-then-count-first-clause-nothing_pays
returns-then-count-first-clause-nothing_pays g c _ one m =
    pays_nothing (opened g (goal.at.returns-then-count-first-clause-nothing_pays g c).After-descend-level)
    (omega (arith, one, c.if-count-first.true)) c.undo_to.new.self c.undo_to.ensures m

pub enter-branch-requires-clause-ready : goal.enter-branch-requires-clause-ready
enter-branch-requires-clause-ready g c =
    let open_at = opened g (goal.at.enter-branch-requires-clause-ready g c).After-descend-level in
    may_go_on (opens_stays open_at) (omega (
      arith,
      ap (λ l. l.begun) open_at.level,
      c.if-count-first.false,
      c.requires.first,
    ))

pub loop-level-init : goal.loop-level-init
loop-level-init g c =
    let open_at = opened g (goal.at.loop-level-init g c).After-descend-level in
    let begun = ap (λ l. l.begun) c.begin_level.ensures in
    let one = c.enter-branch.ensures.entered.begun.begun in
    record {
      step = rw c.begin_level.ensures (step_on (opens_stays open_at) c.enter-branch.result
          c.enter-branch.ensures.still c.enter-branch.ensures.base c.enter-branch.ensures.entered);
      some = omega (arith, begun, one);
      within = omega (arith, begun, one, ap (λ l. l.begun) open_at.level, c.requires.first);
      pays = λ _ early m. rw c.begin_level.ensures (pays_first open_at early c.enter-branch.new.self _
          c.enter-branch.result c.enter-branch.ensures.still c.enter-branch.ensures.entered refl m);
    }

pub enter-branch-requires-in-loop-level-clause-ready : goal.enter-branch-requires-in-loop-level-clause-ready
enter-branch-requires-in-loop-level-clause-ready g c =
    may_go_on (stays_on c.loop-level.invariant.step) (omega (arith, c.loop-level-test.true, c.if-count-first.false))

pub loop-level-preserved : goal.loop-level-preserved
loop-level-preserved g c =
    let was = c.loop-level.invariant in
    let enter = c.enter-branch-in-loop-level in
    let begun = ap (λ l. l.begun) c.begin_level-in-loop-level.ensures in
    let more = enter.ensures.entered.begun.begun in
    record {
      step = rw c.begin_level-in-loop-level.ensures (step_on (stays_on was.step) enter.result enter.ensures.still
          enter.ensures.base enter.ensures.entered);
      some = omega (arith, begun, more);
      within = omega (arith, begun, more, c.loop-level-test.true);
      pays = λ one. absurd (omega (arith, one, begun, more, was.some));
    }

pub returns-clause-deeper : goal.returns-clause-deeper
returns-clause-deeper g c b is chose until leaves m =
    let some = (goal.at.returns-clause-deeper g c).In-Some in
    let here = c.requires.standing.searchable refl in
    let leads = early_leads _ _ _ _ here.valid here.legal (rw some.in-Some.is at chose) in
    let open_at = opened g (goal.at.returns-clause-deeper g c).After-descend-level in
    let was = c.loop-level.invariant in
    rw (← same_branch _ b is) (enters_at was.step c.push.new.self c.push.ensures c.args.first until m open_at.next
    leads (omega (arith, was.within, c.loop-level-test.false)) leaves)

pub returns-clause-deeper_pays : goal.returns-clause-deeper_pays
returns-clause-deeper_pays g c b is one early m =
    let some = (goal.at.returns-clause-deeper_pays g c).In-Some in
    let was = c.loop-level.invariant in
    rw (← same_branch _ b is, c.push.ensures) (was.pays (omega (arith, was.within, was.some, one))
    (rw some.in-Some.is at early) m)

pub returns-then-count-first-clause-moved : goal.returns-then-count-first-clause-moved
returns-then-count-first-clause-moved g c _ =
    opens_moved (opened g (goal.at.returns-then-count-first-clause-moved g c).After-descend-level)
    c.undo_to.new.self c.undo_to.ensures
