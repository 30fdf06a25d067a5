-- The invariant says, of each row `u` that the search may have to leave out, that it went on by `begun` branches
-- (`stands`), and of what is left whether it may be counted at once (`rest`). A step keeps it by `stands_more`: what is
-- left is before the row `until` (`rest_before`), may reach it (`rest_about`), or there is none (`rest_of_all`). Each
-- way out has a lemma: a member (`runs_to_member`), no branch (`runs_to_end`), the row (`runs_to_row`), no step
-- (`runs_to_steps`).
use Rattle.std.proofs.Common.{ℕ, ◌≡◌, ◌+◌, ◌<◌, true, false, not, refl, sym, ap, ◌∙◌, arith, inl, inr, List, Option}
use Rattle.std.specs.Prelude.{nat_eq, option_map}
use Rattle.std.proofs.lemmas.Bool.Decides.{nat_tests}
use Rattle.xc_text.proofs.ListLemmas.{by_option}
use Rattle.xc_search.specs.inner.Spanning.{BeginsBranch, IsRest, IsSeenBy}
use Rattle.xc_search.proofs.BranchLemmas.{none_begun}
use Rattle.xc_search.proofs.EndLemmas.{Pays-trans}
use Rattle.xc_search.proofs.SpanSteps.{row_levels, rest_before, rest_about, rest_of_all, first_rest, none_left_out}
use Rattle.xc_search.proofs.SpanSteps.{stands_first, stands_more}
use Rattle.xc_search.proofs.SpanRuns.{runs_to_steps, runs_to_member, runs_to_end, runs_to_row, seen_rest}
use Rattle.xc_search.proofs.levels.run.Goals as goal
use Rattle.xc_search.proofs.levels.run.Goals.{After-enter_branch, After-commit_branch}
use Rattle.xc_search.proofs.levels.run.Goals.{in-Some+in-Before, in-Some+in-Begins, in_default}

pub loop-at-init : goal.loop-at-init
loop-at-init g c = record {
  begun = 0;
  count = λ _. omega arith;
  stands = λ u _. stands_first c.fixed-task.result.first u _ _ _ c.requires.standing;
  rest = rw c.fixed-task.ensures (by_option c.args.task.until
      (λ e. rw e (rest_of_all c.args.position.now.puzzle c.args.stack.now.levels _ _))
      (λ v e. first_rest _ _ _ _ _ c.requires.before
      (c.no_last-last.ensures.end (rw c.fixed-task.ensures (rw e refl))) (c.requires.all (rw e refl))));
  some_last = λ _. c.no_last-last.ensures.some;
  far = λ is _. c.no_last-last.ensures.way is;
  same = refl;
  some = λ is. elim c.else-this-ne0.either [
    | inl both ↦ omega (arith, both.1)
    | inr zero ↦ absurd (grind (arith, nat_tests, is, zero))
  ];
  pays = λ _. record { ends = refl; due = omega arith };
}

module _ (g : _) (c : After-enter_branch g) where
  -- there is a step to go
  going : not (nat_eq g.row.BOUND 0) ≡ true → 0 < c.loop-at.steps
  going = c.loop-at.invariant.some

  -- what is known of each end
  rest : (u : Option (List ℕ)) → IsSeenBy (not (nat_eq g.row.WAY 0)) u
      (option_map (λ u. u.now) c.fixed-task.result.until) c.fixed-task.result.first
      c.fixed-task.result.steps c.args.position.now.puzzle c.args.stack.now.levels
      → IsRest u c.loop-at.position.puzzle c.loop-at.stack.levels c.loop-at.last
      c.fixed-task.result.first
  rest u is =
      let s = c.loop-at.invariant in
      seen_rest is (s.stands u is) (λ w. s.count (c.requires.way w)) (λ w. going (c.requires.way w)) s.far s.rest

-- a branch was begun
begins : (g : _) (c : After-commit_branch g) (u : Option (List ℕ))
    → IsRest u c.loop-at.position.puzzle c.loop-at.stack.levels c.loop-at.last c.fixed-task.result.first
    → BeginsBranch c.fixed-task.result.first u
    c.loop-at.position c.loop-at.stack c.loop-at.more
    c.commit_branch.new.self c.enter_branch.new.stack c.enter_branch.new.more
begins g c u is =
    rw c.commit_branch.ensures (c.enter_branch.ensures.entered c.in-Branch.at c.in-Branch.is u is).begins

pub commit_branch-requires-clause-can : goal.commit_branch-requires-clause-can
commit_branch-requires-clause-can g c =
    (c.enter_branch.ensures.entered c.in-Branch.at c.in-Branch.is _ c.loop-at.invariant.rest).can

pub commit_branch-requires-clause-place : goal.commit_branch-requires-clause-place
commit_branch-requires-clause-place g c =
    (c.enter_branch.ensures.entered c.in-Branch.at c.in-Branch.is _ c.loop-at.invariant.rest).place

pub enter_branch-requires-clause-standing : goal.enter_branch-requires-clause-standing
enter_branch-requires-clause-standing g c = (c.loop-at.invariant.stands _ (inl refl)).standing

pub enter_branch-requires-clause-levels_fit : goal.enter_branch-requires-clause-levels_fit
enter_branch-requires-clause-levels_fit g c =
    let still = (c.loop-at.invariant.stands _ (inl refl)).still in grind (arith, still, c.requires.levels_fit)

pub returns-in-Solution-clause-ran : goal.returns-in-Solution-clause-ran
returns-in-Solution-clause-ran g c = rw (← c.fixed-task.ensures) (λ u is.
    let s = c.loop-at.invariant in
    let same = c.enter_branch.ensures.same c.in-Solution.is in
    rw c.halted-in-Solution.ensures (runs_to_member (s.stands u is) s.count same.0 same.1 same.2 same.3
    (c.enter_branch.ensures.solved c.in-Solution.is) s.rest.before))

pub returns-in-Solution-clause-stands_pays : goal.returns-in-Solution-clause-stands_pays
returns-in-Solution-clause-stands_pays g c = rw (← c.fixed-task.ensures) (λ _ one.
    let same = c.enter_branch.ensures.same c.in-Solution.is in
    let more : c.enter_branch.new.more ≡ c.loop-at.more = same.3 ∙ sym same.2 in
    rw (c.halted-in-Solution.ensures, same.0, same.1, more) (c.loop-at.invariant.pays one))

pub returns-in-Nothing-clause-ran : goal.returns-in-Nothing-clause-ran
returns-in-Nothing-clause-ran g c = rw (← c.fixed-task.ensures) (λ u is.
    let s = c.loop-at.invariant in
    rw c.halted-in-Nothing.ensures (runs_to_end (s.stands u is) s.count (c.enter_branch.ensures.done c.in-Nothing.is u
    (rest g (goal.at.returns-in-Nothing-clause-ran g c).After-enter_branch u is))
    (c.enter_branch.ensures.done_made c.in-Nothing.is)))

pub returns-in-Nothing-clause-ended_pays : goal.returns-in-Nothing-clause-ended_pays
returns-in-Nothing-clause-ended_pays g c = rw (← c.fixed-task.ensures) (λ _ one.
    rw c.halted-in-Nothing.ensures
    (Pays-trans (c.loop-at.invariant.pays one) (c.enter_branch.ensures.done_pays c.in-Nothing.is one)))

pub returns-in-Reached-clause-ran : goal.returns-in-Reached-clause-ran
returns-in-Reached-clause-ran g c = rw (← c.fixed-task.ensures) (λ u is.
    let on = (goal.at.returns-in-Reached-clause-ran g c).After-commit_branch in
    let at = (goal.at.returns-in-Reached-clause-ran g c).After-enter_branch in
    let row = row_levels c.commit_branch.new.self.puzzle c.levels.result.now c.enter_branch.new.stack.levels
    c.levels.ensures.levels in
    let s = c.loop-at.invariant in
    let bound : not (nat_eq g.row.BOUND 0) ≡ true = grind (arith, nat_tests, c.if-this-ne0-2.true) in
    rw c.halted-in-Reached.ensures (runs_to_row (s.stands u is) s.count bound (going g at bound)
    (begins g on u (rest g at u is))
    (rw (← s.same, c.in-Some.is, ← row) (c.place_apart.ensures.reached c.in-Reached.is))))

pub loop-at-smaller-else-steps-eq0-2 : goal.loop-at-smaller-else-steps-eq0-2
loop-at-smaller-else-steps-eq0-2 g c =
    let on = (goal.at.loop-at-smaller-else-steps-eq0-2 g c).After-commit_branch in
    (begins g on _ c.loop-at.invariant.rest).less

pub loop-at-smaller : goal.loop-at-smaller
loop-at-smaller g c =
    (begins g (goal.at.loop-at-smaller g c).After-commit_branch _ c.loop-at.invariant.rest).less

pub loop-at-preserved-else-steps-eq0-2 : goal.loop-at-preserved-else-steps-eq0-2
loop-at-preserved-else-steps-eq0-2 g c =
    let on = (goal.at.loop-at-preserved-else-steps-eq0-2 g c).After-commit_branch in
    let at = (goal.at.loop-at-preserved-else-steps-eq0-2 g c).After-enter_branch in
    let s = c.loop-at.invariant in
    record {
      begun = s.begun + 1;
      count = λ is. omega (arith, s.count is, going g at is);
      stands = λ u is. stands_more (s.stands u is) (begins g on u (rest g at u is));
      rest = elim c.match-until.branch [
        | in-Some+in-Before w ↦ rest_before c.commit_branch.new.self.puzzle w.levels.result.now
            c.enter_branch.new.stack.levels w.in-Some.until.now _ _ _ w.levels.ensures.levels
            (ap (option_map (λ u. u.now)) (sym s.same ∙ w.in-Some.is)) (w.place_apart.ensures.before w.in-Before.is)
        | in-Some+in-Begins w ↦ rest_about c.commit_branch.new.self.puzzle w.levels.result.now
            c.enter_branch.new.stack.levels w.in-Some.until.now _ _ _ w.levels.ensures.levels
            (ap (option_map (λ u. u.now)) (sym s.same ∙ w.in-Some.is)) (w.place_apart.ensures.begins w.in-Begins.is)
            (omega (arith, w.last-is)) (none_left_out (option_map (λ u. u.now) c.fixed-task.result.until)
            c.commit_branch.new.self.puzzle c.enter_branch.new.stack.levels c.fixed-task.result.first
            ((rw (← c.fixed-task.ensures) at c.requires.all) (rw (← s.same, w.in-Some.is) refl)))
        | in_default w ↦ rw (← s.same, w.in_default.is)
            (rest_of_all c.commit_branch.new.self.puzzle c.enter_branch.new.stack.levels _ _)
      ];
      some_last = λ h. absurd (omega (arith, h));
      far = λ _ h. absurd (omega (arith, h));
      same = s.same;
      some = λ _. omega (arith, c.if-steps-eq0-2.false);
      pays = λ one. Pays-trans (s.pays one) (rw c.commit_branch.ensures (c.enter_branch.ensures.entered_pays
          c.in-Branch.at c.in-Branch.is one));
    }

pub loop-at-preserved : goal.loop-at-preserved
loop-at-preserved g c =
    let on = (goal.at.loop-at-preserved g c).After-commit_branch in
    let at = (goal.at.loop-at-preserved g c).After-enter_branch in
    let s = c.loop-at.invariant in
    let free : not (nat_eq g.row.BOUND 0) ≡ false = grind (arith, nat_tests, c.if-this-ne0-2.false) in
    record {
      begun = s.begun + 1;
      count = λ is. absurd (cc (is, free));
      stands = λ u is. stands_more (s.stands u is) (begins g on u (rest g at u is));
      rest = rw (rw (← c.fixed-task.ensures) at c.requires.free free)
          (rest_of_all c.commit_branch.new.self.puzzle c.enter_branch.new.stack.levels _ _);
      some_last = λ h. absurd (omega (arith, h));
      far = λ _ h. absurd (omega (arith, h));
      same = s.same;
      some = λ is. absurd (cc (is, free));
      pays = λ one. Pays-trans (s.pays one) (rw c.commit_branch.ensures (c.enter_branch.ensures.entered_pays
          c.in-Branch.at c.in-Branch.is one));
    }

pub returns-then-steps-eq0-clause-ran : goal.returns-then-steps-eq0-clause-ran
returns-then-steps-eq0-clause-ran g c = rw (← c.fixed-task.ensures) (λ u is.
    let bound : not (nat_eq g.row.BOUND 0) ≡ true = grind (arith, nat_tests, c.if-this-ne0.true) in
    rw c.halted.ensures (runs_to_steps
    (stands_first c.fixed-task.result.first u _ _ _ c.requires.standing)
    (λ _. omega arith) bound c.if-steps-eq0.true (rw c.fixed-task.ensures c.requires.before)))

pub returns-then-steps-eq0-2-clause-ran : goal.returns-then-steps-eq0-2-clause-ran
returns-then-steps-eq0-2-clause-ran g c = rw (← c.fixed-task.ensures) (λ u is.
    let on = (goal.at.returns-then-steps-eq0-2-clause-ran g c).After-commit_branch in
    let at = (goal.at.returns-then-steps-eq0-2-clause-ran g c).After-enter_branch in
    let s = c.loop-at.invariant in
    let bound : not (nat_eq g.row.BOUND 0) ≡ true = grind (arith, nat_tests, c.if-this-ne0-2.true) in
    let seen : IsRest (option_map (λ u. u.now) c.fixed-task.result.until) c.commit_branch.new.self.puzzle
    c.enter_branch.new.stack.levels c.match-until.last c.fixed-task.result.first = elim c.match-until.branch [
      | in-Some+in-Before w ↦ rest_before c.commit_branch.new.self.puzzle w.levels.result.now
          c.enter_branch.new.stack.levels w.in-Some.until.now _ _ _ w.levels.ensures.levels
          (ap (option_map (λ u. u.now)) (sym s.same ∙ w.in-Some.is)) (w.place_apart.ensures.before w.in-Before.is)
      | in-Some+in-Begins w ↦ rest_about c.commit_branch.new.self.puzzle w.levels.result.now
          c.enter_branch.new.stack.levels w.in-Some.until.now _ _ _ w.levels.ensures.levels
          (ap (option_map (λ u. u.now)) (sym s.same ∙ w.in-Some.is)) (w.place_apart.ensures.begins w.in-Begins.is)
          (omega (arith, w.last-is)) (none_left_out (option_map (λ u. u.now) c.fixed-task.result.until)
          c.commit_branch.new.self.puzzle c.enter_branch.new.stack.levels c.fixed-task.result.first
          ((rw (← c.fixed-task.ensures) at c.requires.all) (rw (← s.same, w.in-Some.is) refl)))
      | in_default w ↦ rw (← s.same, w.in_default.is)
          (rest_of_all c.commit_branch.new.self.puzzle c.enter_branch.new.stack.levels _ _)
    ] in
    rw c.halted-then-steps-eq0-2.ensures (runs_to_steps (stands_more (s.stands u is) (begins g on u (rest g at u is)))
    (λ h. omega (arith, s.count h, going g at h)) bound c.if-steps-eq0-2.true seen.before)
    )

pub returns-in-Nothing-clause-moved : goal.returns-in-Nothing-clause-moved
returns-in-Nothing-clause-moved g c _ =
    let s = c.loop-at.invariant in
    c.enter_branch.ensures.moved c.in-Nothing.is (λ none. s.some_last (none_begun (s.stands _ (inl refl)) none))
