-- No loop: the answers go by what is below. Where it is counted at once, by the last choice (`skip_rest`) or by words
-- (`count_rest`), all solutions there are passed over (`over_below`, `falls_over`). Where a branch is entered or there
-- is none, the clauses are those of `deepen`, of which `as_many` says that nothing was counted before. At a solution
-- one is passed over (`over_one`), or it is where the search stands. Clauses with `pays` say what moves this takes
-- (`pays_over`, `pays_one`), and `moved` that there was one.
use Rattle.std.proofs.Common.{arith, ◌≡◌, ◌∙◌, refl}
use Rattle.std.proofs.lemmas.List.{length-reverse}
use Rattle.xc_search.proofs.BranchLemmas.{levels_moved, solved_moved, early_next}
use Rattle.xc_search.proofs.LoopSteps.{solution}
use Rattle.xc_search.proofs.SpanHalts.{falls_over}
use Rattle.xc_search.proofs.SpanSteps.{over_below, over_one}
use Rattle.xc_search.proofs.EndLemmas.{pays_over, pays_one}
use Rattle.xc_search.proofs.levels.go_below.Goals as goal
use Rattle.xc_search.proofs.levels.go_below.Goals.{After-choose_early-next}

pub returns-then-skip_rest-clause-back : goal.returns-then-skip_rest-clause-back
returns-then-skip_rest-clause-back g c _ until is =
    let d = c.args.position.now in
    falls_over c.args.first until d c.args.stack.now _ _ c.requires.standing
    (over_below until d.puzzle d.trail c.args.stack.now.levels c.args.last.now c.args.first _ _ is
    (grind (arith, length-reverse))
    (c.skip_rest.ensures.skipped c.if-skip_rest.true))

pub returns-then-skip_rest-clause-back_pays : goal.returns-then-skip_rest-clause-back_pays
returns-then-skip_rest-clause-back_pays g c _ _ =
    pays_over _ _ _ _ (c.requires.standing.searchable refl) (c.skip_rest.ensures.skipped c.if-skip_rest.true)

pub returns-then-count_rest-clause-back : goal.returns-then-count_rest-clause-back
returns-then-count_rest-clause-back g c _ until is =
    let d = c.args.position.now in
    falls_over c.args.first until d c.args.stack.now _ _ c.requires.standing
    (over_below until d.puzzle d.trail c.args.stack.now.levels c.args.last.now c.args.first _ _ is
    (c.count_rest.ensures.all c.if-count_rest.true) (grind arith))

pub returns-then-count_rest-clause-back_pays : goal.returns-then-count_rest-clause-back_pays
returns-then-count_rest-clause-back_pays g c _ _ =
    pays_over _ _ _ _ (c.requires.standing.searchable refl) (grind arith)

pub deepen-requires-clause-next : goal.deepen-requires-clause-next
deepen-requires-clause-next g c =
    let here = c.requires.standing.searchable refl in
    early_next _ _ _ here.valid here.legal c.choose_early-next.ensures.choice

-- where the last choice wasn't counted, as many are to be passed over
as_many : (g : _) (c : After-choose_early-next g) → c.else-this-ne0.more ≡ c.args.more.now
as_many g c = grind (arith)

pub returns-in-Branch-clause-entered : goal.returns-in-Branch-clause-entered
returns-in-Branch-clause-entered g c b is until rest =
    rw (as_many g (goal.at.returns-in-Branch-clause-entered g c).After-choose_early-next)
    (c.deepen.ensures.deeper b (c.in-Branch.is ∙ is) c.choose_early-next.ensures.choice until
    rest.leaves c.args.more.now)

pub returns-in-Branch-clause-entered_pays : goal.returns-in-Branch-clause-entered_pays
returns-in-Branch-clause-entered_pays g c b is one =
    rw (as_many g (goal.at.returns-in-Branch-clause-entered_pays g c).After-choose_early-next)
    (c.deepen.ensures.deeper_pays b (c.in-Branch.is ∙ is) one
    c.choose_early-next.ensures.choice c.args.more.now)

pub returns-in-Nothing-clause-back : goal.returns-in-Nothing-clause-back
returns-in-Nothing-clause-back g c _ until rest =
    rw (as_many g (goal.at.returns-in-Nothing-clause-back g c).After-choose_early-next)
    (c.deepen.ensures.nothing c.in-Nothing.is until rest.leaves c.args.more.now)

pub returns-in-Nothing-clause-back_pays : goal.returns-in-Nothing-clause-back_pays
returns-in-Nothing-clause-back_pays g c _ one =
    rw (as_many g (goal.at.returns-in-Nothing-clause-back_pays g c).After-choose_early-next)
    (c.deepen.ensures.nothing_pays c.in-Nothing.is one c.args.more.now)

pub returns-else-more-eq0-clause-back : goal.returns-else-more-eq0-clause-back
returns-else-more-eq0-clause-back g c _ until is =
    let same = as_many g (goal.at.returns-else-more-eq0-clause-back g c).After-choose_early-next in
    let d = c.args.position.now in
    let here = c.deepen.ensures.same c.in-Solution.is in
    let none = c.deepen.ensures.solved c.in-Solution.is in
    let one = solution d.puzzle d.trail c.args.stack.now.levels (c.requires.standing.searchable refl).legal none in
    rw (here.0, here.1) (falls_over c.args.first until d c.args.stack.now _ _
    c.requires.standing (over_one c.args.first until d.puzzle d.trail c.args.stack.now.levels c.args.last.now _ _
    is one (omega (arith, same, c.if-more-eq0.false))))

pub returns-else-more-eq0-clause-back_pays : goal.returns-else-more-eq0-clause-back_pays
returns-else-more-eq0-clause-back_pays g c _ _ = grind (arith, as_many, pays_one)

pub returns-then-skip_rest-clause-moved : goal.returns-then-skip_rest-clause-moved
returns-then-skip_rest-clause-moved g c _ far =
    let d = c.args.position.now in
    omega (
      arith,
      levels_moved d.puzzle d.trail c.args.stack.now.levels c.args.last.now c.requires.standing.stacked far
          (grind (arith, length-reverse)),
    )

pub returns-then-count_rest-clause-moved : goal.returns-then-count_rest-clause-moved
returns-then-count_rest-clause-moved g c _ _ =
    let d = c.args.position.now in
    omega (
      arith,
      levels_moved d.puzzle d.trail c.args.stack.now.levels _ c.requires.standing.stacked
          (λ _. c.count_rest.ensures.deep c.if-count_rest.true) (grind (arith, length-reverse)),
    )

pub returns-else-more-eq0-clause-moved : goal.returns-else-more-eq0-clause-moved
returns-else-more-eq0-clause-moved g c _ _ =
    let d = c.args.position.now in
    rw (c.deepen.ensures.same c.in-Solution.is).0 (omega (
      arith,
      solved_moved d.puzzle d.trail c.args.stack.now.levels
          (record { standing = c.requires.standing; none = c.deepen.ensures.solved c.in-Solution.is }),
    ))
