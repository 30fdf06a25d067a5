use Rattle.std.proofs.Common.{◌≡◌, ◌∙◌, ap, refl, arith, None}
use Rattle.xc_search.specs.inner.Levels.{Levels}
use Rattle.xc_search.specs.declared.levels.Entered.{Entered}
use Rattle.xc_search.specs.declared.levels.Below.TheVariants.{Branch}
use Rattle.xc_search.specs.declared.levels.Next.TheVariants as next
use Rattle.xc_search.proofs.SpanHalts.{enters_back, ends_back}
use Rattle.xc_search.proofs.SpanSteps.{rest_of_all}
use Rattle.xc_search.proofs.EndLemmas.{Pays-trans}
use Rattle.xc_search.proofs.levels.enter_branch.Goals as goal

same_entered : (a b : Entered) → next.Branch a ≡ next.Branch b → a ≡ b
same_entered a b is = cc is

pub returns-in-Branch-clause-entered : goal.returns-in-Branch-clause-entered
returns-in-Branch-clause-entered g c b is =
    c.go_below.ensures.entered b (c.in-Branch.is ∙ ap Branch (same_entered _ b is))

pub returns-in-Branch-clause-entered_pays : goal.returns-in-Branch-clause-entered_pays
returns-in-Branch-clause-entered_pays g c b is =
    c.go_below.ensures.entered_pays b (c.in-Branch.is ∙ ap Branch (same_entered _ b is))

pub resume-requires : goal.resume-requires
resume-requires g c = record {
  standing = (c.go_below.ensures.back c.in-Nothing.is None
      (rest_of_all c.args.position.now.puzzle c.args.stack.now.levels c.args.last.now c.args.first)).standing;
}

pub returns-in-Some-clause-entered : goal.returns-in-Some-clause-entered
returns-in-Some-clause-entered g c b is until rest =
    rw (← same_entered _ b is) (enters_back (c.go_below.ensures.back c.in-Nothing.is until rest)
    c.in-Some.ensures.resumed c.in-Some.ensures.resumed_path c.in-Some.ensures.resumed_row
    c.in-Some.ensures.resumed_levels)

pub returns-in-Some-clause-entered_pays : goal.returns-in-Some-clause-entered_pays
returns-in-Some-clause-entered_pays g c b is one =
    rw (← same_entered _ b is) (Pays-trans (c.go_below.ensures.back_pays c.in-Nothing.is one)
    (c.in-Some.ensures.resumed_pays _))

pub returns-in-None-clause-done : goal.returns-in-None-clause-done
returns-in-None-clause-done g c _ until rest =
    ends_back (c.go_below.ensures.back c.in-Nothing.is until rest) (c.resume.ensures.done (rw c.in-None.is refl))

pub returns-in-None-clause-done_pays : goal.returns-in-None-clause-done_pays
returns-in-None-clause-done_pays g c _ one =
    Pays-trans (c.go_below.ensures.back_pays c.in-Nothing.is one)
    (c.resume.ensures.done_pays (rw c.in-None.is refl) _)

pub returns-in-None-clause-done_made : goal.returns-in-None-clause-done_made
returns-in-None-clause-done_made g c _ =
    let back = c.go_below.ensures.back c.in-Nothing.is None
    (rest_of_all c.args.position.now.puzzle c.args.stack.now.levels c.args.last.now c.args.first) in
    let done = c.resume.ensures.done (rw c.in-None.is refl) in
    (done.counted ∙ ap (λ (s : Levels). s.begun) back.still.1, omega (arith, done.made, back.made))

pub returns-in-None-clause-moved : goal.returns-in-None-clause-moved
returns-in-None-clause-moved g c _ far =
    omega (arith, (c.resume.ensures.done (rw c.in-None.is refl)).made, c.go_below.ensures.moved c.in-Nothing.is far)
